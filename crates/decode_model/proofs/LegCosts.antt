-- How many row products a way takes.
use Rattle.std.specs.Prelude.{◌==◌}
use Rattle.std.proofs.Common.{◌≡◌, ℕ, zero, suc, ◌/◌, ◌%◌, ◌^◌, ◌<◌, ◌≤◌, Bool, true, false, cond, List, [], ◌∷◌, map, length, take, refl, sym, subst, arith, length-append, length-take}
use Rattle.std.proofs.Math.Nat.{mod-lt}
use Rattle.std.proofs.lemmas.List.{length-map}
use Rattle.bool_mat.specs.Matrix.{Matrix, has}
use Rattle.wf_model.specs.Reach.{Step}
use Rattle.decode_model.specs.Matrices.{ViewMatrices}
use Rattle.decode_model.specs.Legs.{Leg, One, Chain, Part, squares, still, squares_to, each_up, leg_down, leg_up, way_down, way_up}
use Rattle.decode_model.specs.Costs.{leg_cost, IsShortLeg, all, later, of_chain, of_part}
use Rattle.decode_model.specs.CostLaws.{CostLaw, LeftLaw}
use Rattle.decode_model.proofs.StillSquares.{still_few}

squares_short : (square : ℕ → Matrix) (q n : ℕ) → length (squares square q n) ≤ n
squares_short square q zero = omega arith
squares_short square q (suc n) =
    let l = length-append (squares square q n) (cond (has q n) (square n ∷ []) []) in
    let s = squares_short square q n in
    let o = one (has q n) in
    omega arith
  where
    one : (b : Bool) → length (cond b (square n ∷ []) []) ≤ 1
    one true = omega arith
    one false = omega arith

-- at most 23 for the lower digits, and one for the higher
squares_to_short : (square : ℕ → Matrix) (q : ℕ) → length (squares_to square q) ≤ 24
squares_to_short square q =
    let b = q / 2 ^ still square == 0 in
    let l = length-append (squares square q (still square)) (cond b [] (square (still square) ∷ [])) in
    let s = squares_short square q (still square) in
    let f = still_few square in
    let o = one b in
    omega arith
  where
    one : (b : Bool) → length (cond b [] (square (still square) ∷ [])) ≤ 1
    one true = omega arith
    one false = omega arith

each_up_length : (v : ViewMatrices) (steps : List Step) → length (each_up v steps) ≡ length steps
each_up_length v [] = refl
each_up_length v (s ∷ steps) = let l = length-append (each_up v steps) (v.out_of s ∷ []) in let e = each_up_length v steps in omega arith

leg_down_cost : (v : ViewMatrices) (l : ℕ) (leg : Leg) → IsShortLeg l leg → length (leg_down v leg) ≤ leg_cost l leg
leg_down_cost v l (One s) x = omega arith
leg_down_cost v l (Chain m round c) x =
    let a = length-append (squares_to (v.square_in m) (c / length round)) (map v.into (take (c % length round) round)) in
    let s = squares_to_short (v.square_in m) (c / length round) in
    let e = length-map (take (c % length round) round) v.into in
    let t = length-take (c % length round) round in
    let r = mod-lt c x.0 in
    let w = x.1 in
    omega arith
leg_down_cost v l (Part m steps) x = let e = length-map steps v.into in omega arith

leg_up_cost : (v : ViewMatrices) (l : ℕ) (leg : Leg) → IsShortLeg l leg → length (leg_up v leg) ≤ leg_cost l leg
leg_up_cost v l (One s) x = omega arith
leg_up_cost v l (Chain m round c) x =
    let a = length-append (each_up v (take (c % length round) round)) (squares_to (v.square_out m) (c / length round)) in
    let s = squares_to_short (v.square_out m) (c / length round) in
    let e = each_up_length v (take (c % length round) round) in
    let t = length-take (c % length round) round in
    let r = mod-lt c x.0 in
    let w = x.1 in
    omega arith
leg_up_cost v l (Part m steps) x = let e = each_up_length v steps in omega arith

pub cost_law : CostLaw
cost_law v l [] x = record { down = omega arith; up = omega arith }
cost_law v l (leg ∷ legs) x =
    let r = cost_law v l legs x.1 in
    let rd = r.down in
    let ru = r.up in
    let ld = leg_down_cost v l leg x.0 in
    let lu = leg_up_cost v l leg x.0 in
    let ad = length-append (leg_down v leg) (way_down v legs) in
    let au = length-append (way_up v legs) (leg_up v leg) in
    record { down = omega arith; up = omega arith }

-- what is left of a leg is short if the leg is, and costs as much
pub left_law : LeftLaw
left_law l _ legs all = record { no_more = omega arith; short = λ x. x }
left_law l rest (leg ∷ legs) (later h) =
    let r = left_law l rest legs h in
    let n = r.no_more in
    record { no_more = omega arith; short = λ x. r.short x.1 }
left_law l _ _ (of_chain e k) = record { no_more = omega arith; short = λ x. ((subst (λ z. 0 < z) (sym e) x.0.0, subst (λ z. z ≤ l) (sym e) x.0.1), x.1) }
left_law l _ _ (of_part {steps = steps} gone) =
    record { no_more = omega arith; short = λ x. (let w = x.0 in let a = length-append gone steps in omega arith, x.1) }
