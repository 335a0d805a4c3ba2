-- What the readers of a label of a view ask for holds along legs.
use Rattle.std.proofs.Common.{◌≡◌, ℕ, zero, suc, ◌+◌, ◌%◌, ◌<◌, Bool, true, false, cond, List, [], ◌∷◌, length, get_or, drop, sym, subst, arith}
use Rattle.std.proofs.Math.Nat.{mod-lt}
use Rattle.std.proofs.lemmas.List.{drop_more, get_or-map, length-map}
use Rattle.wf_model.specs.Grammar.{Grammar}
use Rattle.wf_model.specs.View.{View}
use Rattle.wf_model.specs.Reach.{Step, target_of, module_along}
use Rattle.wf_model.specs.OpenRoutes.{IsOpenStep, IsOpenRoute}
use Rattle.decode_model.specs.Matrices.{IsOnceRound}
use Rattle.decode_model.specs.Legs.{Leg, Part, leg_steps, IsLeg, AreLegs}
use Rattle.wf_model.proofs.OpenRoutes.{open_take}
use Rattle.wf_recur.specs.declared.table.CycleNo.{CycleNo}
use Rattle.wf_recur.specs.Cycles.{round_at, step_of}
use Rattle.wf_vlabel.specs.Seen.{ViewLabelSeen, IsLabelOfView, Opens, OpensRound}
use Rattle.wf_decode.specs.declared.leg.Leg.{Leg as LegHeld}
use Rattle.wf_decode.specs.declared.leg.Leg.TheVariants.{Into as IntoHeld, Chain as ChainHeld}
use Rattle.wf_decode.specs.HeldLegs.{module_on, round_from, chain_from, is_whole, leg_of, legs_of, AreHeld}
use Rattle.wf_decode.specs.OpenLegs.{OpensRoute, IsPlaced, OpensLeg}
use Rattle.wf_decode.proofs.ChainSteps.{length-round, few_steps}

open_at : (g : Grammar) (u : View) (m : ℕ) (steps : List Step) (i : ℕ) (d : Step) → IsOpenRoute g u m steps → i < length steps → IsOpenStep g u (get_or steps i d)
open_at g u m [] i d x low = absurd (omega arith)
open_at g u m (s ∷ steps) zero d x low = x.0
open_at g u m (s ∷ steps) (suc i) d x low = open_at g u (target_of g s) steps i d x.2 (omega arith)

-- each step of an open route is open
pub opens_at : (l : ViewLabelSeen) (m : ℕ) (steps : List Step) (i : ℕ) (d s : Step) → OpensRoute l m steps → i < length steps → get_or steps i d ≡ s → Opens l s
opens_at l m steps i d s x low e = (x.0, x.1, subst (IsOpenStep l.grammar x.0) e (open_at l.grammar x.0 m steps i d x.2 low))

leg_at : (g : Grammar) (u : View) (m : ℕ) (legs : List Leg) (i : ℕ) (d : Leg) → AreLegs g u m legs → i < length legs → (n : ℕ) × IsLeg g u n (get_or legs i d)
leg_at g u m [] i d x low = absurd (omega arith)
leg_at g u m (leg ∷ legs) zero d x low = (m, x.0)
leg_at g u m (leg ∷ legs) (suc i) d x low = leg_at g u (module_along g m (leg_steps leg)) legs i d x.1 (omega arith)

placed_at : (l : ViewLabelSeen) (m : ℕ) (told : Bool) (legs : List LegHeld) (i : ℕ) (d : LegHeld) → AreHeld l m told legs → i < length legs → IsPlaced l (get_or legs i d)
placed_at l m told [] i d x low = absurd (omega arith)
placed_at l m told (IntoHeld s ∷ legs) zero d x low = tt
placed_at l m told (IntoHeld s ∷ legs) (suc i) d x low = placed_at l (target_of l.grammar (step_of s)) false legs i d x.3 (omega arith)
placed_at l m told (ChainHeld k j n ∷ legs) zero d x low = (x.1.cycle, x.1.place)
placed_at l m told (ChainHeld k j n ∷ legs) (suc i) d x low = placed_at l (module_along l.grammar m (leg_steps (chain_from l.cycles k.0 j n))) true legs i d x.3 (omega arith)

-- each of the legs that are held can be gone under the view
pub opens_leg : (l : ViewLabelSeen) (u : View) (m : ℕ) (legs : List LegHeld) (i : ℕ) (d : LegHeld) → IsLabelOfView l u → AreHeld l m false legs → AreLegs l.grammar u m (legs_of l legs) → i < length legs → OpensLeg l (get_or legs i d)
opens_leg l u m legs i d of_view held legs_are low =
    let x = leg_at l.grammar u m (legs_of l legs) i (leg_of l d) legs_are (subst (λ n. i < n) (sym (length-map legs (leg_of l))) low) in
    (placed_at l m false legs i d held low, (u, x.0, of_view, subst (IsLeg l.grammar u x.0) (get_or-map (leg_of l) legs i d (leg_of l d) low) x.1))

-- so can the first of those that are left
pub opens_first : (l : ViewLabelSeen) (u : View) (m : ℕ) (legs : List LegHeld) (n : ℕ) (d : LegHeld) → IsLabelOfView l u → AreHeld l m false (drop n legs) → AreLegs l.grammar u m (legs_of l (drop n legs)) → n < length legs → OpensLeg l (get_or legs n d)
opens_first l u m legs n d of_view held legs_are low =
    let e = drop_more legs n d low in
    opens_leg l u m (get_or legs n d ∷ drop (n + 1) legs) 0 d of_view (subst (AreHeld l m false) e held) (subst (λ z. AreLegs l.grammar u m (legs_of l z)) e legs_are) (omega arith)

module _ (l : ViewLabelSeen) (k : CycleNo) (j n : ℕ) (x : OpensLeg l (ChainHeld k j n)) where
  leg_as : (b : Bool) → is_whole l k.0 ≡ b → IsLeg l.grammar x.1.0 x.1.1 (cond b (chain_from l.cycles k.0 j n) (Part (module_on l.cycles k.0 j) (leg_steps (chain_from l.cycles k.0 j n))))
  leg_as b e = subst (λ z. IsLeg l.grammar x.1.0 x.1.1 (cond z (chain_from l.cycles k.0 j n) (Part (module_on l.cycles k.0 j) (leg_steps (chain_from l.cycles k.0 j n))))) e x.1.3

  -- the steps of a chain that is cut are open
  pub opens_part : is_whole l k.0 ≡ false → OpensRoute l (module_on l.cycles k.0 j) (leg_steps (chain_from l.cycles k.0 j n))
  opens_part e =
      let p = leg_as false e in
      (x.1.0, x.1.2, subst (λ m. IsOpenRoute l.grammar x.1.0 m (leg_steps (chain_from l.cycles k.0 j n))) (sym p.0) p.1)

  once_round : is_whole l k.0 ≡ true → IsOnceRound l.grammar x.1.0 (module_on l.cycles k.0 j) (round_from l.cycles k.0 j)
  once_round e = let p = leg_as true e in subst (λ m. IsOnceRound l.grammar x.1.0 m (round_from l.cycles k.0 j)) (sym p.0) p.1

  -- the round of another can be gone
  pub opens_round : is_whole l k.0 ≡ true → OpensRound l (module_on l.cycles k.0 j)
  opens_round e = (x.1.0, x.1.2, (round_from l.cycles k.0 j, once_round e))

  -- so can its rest
  pub opens_rest : is_whole l k.0 ≡ true → (r : ℕ) → r ≡ n % length (round_at l.cycles k.0) → OpensRoute l (module_on l.cycles k.0 j) (leg_steps (chain_from l.cycles k.0 j r))
  opens_rest e r same =
      let round = round_from l.cycles k.0 j in
      let size = length-round l.cycles k.0 j x.0.1 in
      let place = x.0.1 in
      let rest = mod-lt n {m = length (round_at l.cycles k.0)} (omega arith) in
      let low : r < length round = omega arith in
      (x.1.0, x.1.2, subst (IsOpenRoute l.grammar x.1.0 (module_on l.cycles k.0 j)) (sym (few_steps l.cycles k.0 j x.0.1 r low)) (open_take l.grammar x.1.0 (module_on l.cycles k.0 j) r round (once_round e).open_route))
