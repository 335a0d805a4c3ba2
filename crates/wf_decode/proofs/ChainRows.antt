-- The matrices of a chain that is held.
use Rattle.std.proofs.Common.{◌≡◌, ℕ, ◌/◌, ◌%◌, ◌<◌, true, false, cond, ◌++◌, map, length, take, sym, ap, ◌∙◌, subst, arith}
use Rattle.std.proofs.Math.Nat.{mod-lt}
use Rattle.decode_model.specs.Rows.{Progress}
use Rattle.decode_model.specs.Legs.{Part, leg_steps, squares_to, each_up, leg_down, leg_up}
use Rattle.wf_recur.specs.declared.table.CycleNo.{CycleNo}
use Rattle.wf_recur.specs.Cycles.{round_at}
use Rattle.wf_vlabel.specs.Seen.{ViewLabelSeen, matrices_of}
use Rattle.wf_decode.specs.declared.leg.Leg.TheVariants.{Chain as ChainHeld}
use Rattle.wf_decode.specs.HeldLegs.{module_on, round_from, chain_from, is_whole, leg_of}
use Rattle.wf_decode.proofs.ChainSteps.{length-round, few_steps}
use Rattle.wf_decode.proofs.Progressing.{progress_append}

module _ (l : ViewLabelSeen) (k : CycleNo) (j n first : ℕ) where
  -- the leg as it is where the view expands the whole cycle, and where it does not
  whole_leg : is_whole l k.0 ≡ true → leg_of l (ChainHeld k j n) ≡ chain_from l.cycles k.0 j n
  whole_leg e = ap (λ b. cond b (chain_from l.cycles k.0 j n) (Part (module_on l.cycles k.0 j) (leg_steps (chain_from l.cycles k.0 j n)))) e

  part_leg : is_whole l k.0 ≡ false → leg_of l (ChainHeld k j n) ≡ Part (module_on l.cycles k.0 j) (leg_steps (chain_from l.cycles k.0 j n))
  part_leg e = ap (λ b. cond b (chain_from l.cycles k.0 j n) (Part (module_on l.cycles k.0 j) (leg_steps (chain_from l.cycles k.0 j n)))) e

  pub part_down : (row start now : ℕ) → is_whole l k.0 ≡ false →
      Progress (map (matrices_of l).into (leg_steps (chain_from l.cycles k.0 j n))) first row start now → Progress (leg_down (matrices_of l) (leg_of l (ChainHeld k j n))) first row start now
  part_down row start now e p = subst (λ leg. Progress (leg_down (matrices_of l) leg) first row start now) (sym (part_leg e)) p

  pub part_up : (row start now : ℕ) → is_whole l k.0 ≡ false →
      Progress (each_up (matrices_of l) (leg_steps (chain_from l.cycles k.0 j n))) first row start now → Progress (leg_up (matrices_of l) (leg_of l (ChainHeld k j n))) first row start now
  part_up row start now e p = subst (λ leg. Progress (leg_up (matrices_of l) leg) first row start now) (sym (part_leg e)) p

  module _ (q r next row start then now : ℕ) (place : j < length (round_at l.cycles k.0)) (rounds_are : q ≡ n / length (round_at l.cycles k.0)) (rest_is : r ≡ n % length (round_at l.cycles k.0)) where
    whole_rounds : q ≡ n / length (round_from l.cycles k.0 j)
    whole_rounds = rounds_are ∙ ap (λ z. n / z) (sym (length-round l.cycles k.0 j place))

    whole_rest : leg_steps (chain_from l.cycles k.0 j r) ≡ take (n % length (round_from l.cycles k.0 j)) (round_from l.cycles k.0 j)
    whole_rest =
        let round = round_from l.cycles k.0 j in
        let size = length-round l.cycles k.0 j place in
        let small = mod-lt n {m = length (round_at l.cycles k.0)} (omega arith) in
        let e : r ≡ n % length round = rest_is ∙ ap (λ z. n % z) (sym size) in
        few_steps l.cycles k.0 j place r (omega arith) ∙ ap (λ z. take z round) e

    -- going down, whole rounds and then the rest
    pub whole_down : is_whole l k.0 ≡ true → Progress (squares_to ((matrices_of l).square_in (module_on l.cycles k.0 j)) q) first next start then →
        Progress (map (matrices_of l).into (leg_steps (chain_from l.cycles k.0 j r))) next row then now → Progress (leg_down (matrices_of l) (leg_of l (ChainHeld k j n))) first row start now
    whole_down e a b =
        let v = matrices_of l in
        let square = v.square_in (module_on l.cycles k.0 j) in
        let steps = leg_steps (chain_from l.cycles k.0 j r) in
        let same : squares_to square q ++ map v.into steps ≡ leg_down v (chain_from l.cycles k.0 j n) =
        ap (λ z. squares_to square z ++ map v.into steps) whole_rounds ∙ ap (λ z. squares_to square (n / length (round_from l.cycles k.0 j)) ++ map v.into z) whole_rest in
        subst (λ z. Progress z first row start now) (same ∙ ap (leg_down v) (sym (whole_leg e)))
        (progress_append (squares_to square q) (map v.into steps) first next row start then now a b)

    -- going up, the rest and then whole rounds
    pub whole_up : is_whole l k.0 ≡ true → Progress (each_up (matrices_of l) (leg_steps (chain_from l.cycles k.0 j r))) first next start then →
        Progress (squares_to ((matrices_of l).square_out (module_on l.cycles k.0 j)) q) next row then now → Progress (leg_up (matrices_of l) (leg_of l (ChainHeld k j n))) first row start now
    whole_up e a b =
        let v = matrices_of l in
        let square = v.square_out (module_on l.cycles k.0 j) in
        let steps = leg_steps (chain_from l.cycles k.0 j r) in
        let same : each_up v steps ++ squares_to square q ≡ leg_up v (chain_from l.cycles k.0 j n) =
        ap (λ z. each_up v steps ++ squares_to square z) whole_rounds ∙ ap (λ z. each_up v z ++ squares_to square (n / length (round_from l.cycles k.0 j))) whole_rest in
        subst (λ z. Progress z first row start now) (same ∙ ap (leg_up v) (sym (whole_leg e)))
        (progress_append (each_up v steps) (squares_to square q) first next row start then now a b)
