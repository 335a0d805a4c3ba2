-- The matrices of legs have the relations of their steps.
use Rattle.std.proofs.Common.{◌≡◌, ℕ, ◌/◌, ◌%◌, ◌^◌, ◌<◌, List, [], ◌∷◌, map, length, take, sym, subst, arith}
use Rattle.std.proofs.Math.Nat.{div-le_self}
use Rattle.bool_mat.specs.Matrix.{Power}
use Rattle.bool_mat.proofs.Relations.{Same, same_refl, same_sym, same_trans, then_same, then_id_left}
use Rattle.wf_model.specs.Grammar.{Grammar, Assignment}
use Rattle.wf_model.specs.View.{View}
use Rattle.wf_model.specs.Reach.{Step, target_of, module_along, OutOf}
use Rattle.wf_laws.specs.Splits.{IntoAll, OutAll}
use Rattle.decode_model.specs.Rounds.{times}
use Rattle.decode_model.specs.Rows.{Along}
use Rattle.wf_model.specs.OpenRoutes.{IsOpenRoute}
use Rattle.decode_model.specs.Matrices.{IsOnceRound, ViewMatrices, AreMatrices}
use Rattle.decode_model.specs.Legs.{Leg, One, Chain, Part, leg_steps, way_steps, squares_to, each_up, leg_down, leg_up, way_down, way_up, IsLeg, AreLegs}
use Rattle.decode_model.specs.RowLaws.{WaysLaw}
use Rattle.decode_model.proofs.Crossing.{into_append, out_append, out_first}
use Rattle.decode_model.proofs.Rounds.{into_times, out_times}
use Rattle.decode_model.proofs.RowProducts.{along_append, along_one}
use Rattle.decode_model.proofs.StillSquares.{squares_to_power}
use Rattle.wf_model.proofs.OpenRoutes.{open_take}

module _ (g : Grammar) (u : View) (d : Assignment) (v : ViewMatrices) (are : AreMatrices g u d v) where
  each_down_law : (m : ℕ) (steps : List Step) → IsOpenRoute g u m steps → Same (Along (map v.into steps)) (IntoAll g d steps)
  each_down_law m [] x = same_refl (λ i j. i ≡ j)
  each_down_law m (s ∷ steps) x = then_same (are.into s x.0) (each_down_law (target_of g s) steps x.2)

  each_up_law : (m : ℕ) (steps : List Step) → IsOpenRoute g u m steps → Same (Along (each_up v steps)) (OutAll g d steps)
  each_up_law m [] x = same_refl (λ i j. i ≡ j)
  each_up_law m (s ∷ steps) x =
      same_trans (along_append (each_up v steps) (v.out_of s ∷ [])) (same_trans (then_same (each_up_law (target_of g s) steps x.2) (same_trans (along_one (v.out_of s)) (are.out_of s x.0))) (same_sym (out_first g d s steps)))

  -- the number of rounds has at most 24 digits
  rounds : (c l : ℕ) → c < 2 ^ 24 → c / l < 2 ^ 24
  rounds c l h = let b = div-le_self c l in omega arith

  leg_down_law : (m : ℕ) (leg : Leg) → IsLeg g u m leg → Same (Along (leg_down v leg)) (IntoAll g d (leg_steps leg))
  leg_down_law m (One s) x = then_same (are.into s x.0) (same_refl (λ i j. i ≡ j))
  leg_down_law m (Chain from round c) x =
      let q = c / length round in
      let rest = take (c % length round) round in
      let power : Same (Along (squares_to (v.square_in from) q)) (Power (IntoAll g d round) q) =
      squares_to_power (v.square_in from) (IntoAll g d round) q (rounds c (length round) x.2) (λ k h. are.square_in from round (subst (λ z. IsOnceRound g u z round) (sym x.0) x.1) k h) in
      same_trans (along_append (squares_to (v.square_in from) q) (map v.into rest))
      (same_trans (then_same (same_trans power (same_sym (into_times g d round q))) (each_down_law m rest (open_take g u m (c % length round) round x.1.open_route)))
      (same_sym (into_append g d (times q round) rest)))
  leg_down_law m (Part from steps) x = each_down_law m steps x.1

  leg_up_law : (m : ℕ) (leg : Leg) → IsLeg g u m leg → Same (Along (leg_up v leg)) (OutAll g d (leg_steps leg))
  leg_up_law m (One s) x = same_trans (along_one (v.out_of s)) (same_trans (are.out_of s x.0) (same_sym (same_trans (out_first g d s []) (then_id_left (OutOf g d s)))))
  leg_up_law m (Chain from round c) x =
      let q = c / length round in
      let rest = take (c % length round) round in
      let power : Same (Along (squares_to (v.square_out from) q)) (Power (OutAll g d round) q) =
      squares_to_power (v.square_out from) (OutAll g d round) q (rounds c (length round) x.2) (λ k h. are.square_out from round (subst (λ z. IsOnceRound g u z round) (sym x.0) x.1) k h) in
      same_trans (along_append (each_up v rest) (squares_to (v.square_out from) q))
      (same_trans (then_same (each_up_law m rest (open_take g u m (c % length round) round x.1.open_route)) (same_trans power (same_sym (out_times g d round q))))
      (same_sym (out_append g d (times q round) rest)))
  leg_up_law m (Part from steps) x = each_up_law m steps x.1

  pub down_way : (m : ℕ) (legs : List Leg) → AreLegs g u m legs → Same (Along (way_down v legs)) (IntoAll g d (way_steps legs))
  down_way m [] x = same_refl (λ i j. i ≡ j)
  down_way m (leg ∷ legs) x =
      same_trans (along_append (leg_down v leg) (way_down v legs)) (same_trans (then_same (leg_down_law m leg x.0) (down_way (module_along g m (leg_steps leg)) legs x.1)) (same_sym (into_append g d (leg_steps leg) (way_steps legs))))

  pub up_way : (m : ℕ) (legs : List Leg) → AreLegs g u m legs → Same (Along (way_up v legs)) (OutAll g d (way_steps legs))
  up_way m [] x = same_refl (λ i j. i ≡ j)
  up_way m (leg ∷ legs) x =
      same_trans (along_append (way_up v legs) (leg_up v leg)) (same_trans (then_same (up_way (module_along g m (leg_steps leg)) legs x.1) (leg_up_law m leg x.0)) (same_sym (out_append g d (leg_steps leg) (way_steps legs))))

pub ways_law : WaysLaw
ways_law g u d v are m legs x i j = record { down = down_way g u d v are m legs x i j; up = up_way g u d v are m legs x i j }
