-- Held legs of an address are legs of a place.
use Rattle.std.proofs.Common.{◌≡◌, ◌≢◌, ℕ, Bool, true, false, cond, List, [], ◌∷◌, Some, sym, subst, true≢false}
use Rattle.wf_model.specs.Lists.{here, onward}
use Rattle.wf_model.specs.Grammar.{Grammar}
use Rattle.wf_model.specs.Proper.{Derives}
use Rattle.wf_model.specs.Reach.{Step, target_of, module_along}
use Rattle.wf_model.specs.Linear.{IsStepOf, Continues, IsOnCycle}
use Rattle.wf_model.proofs.Walks.{walk-append}
use Rattle.wf_model.proofs.Going.{step_makes}
use Rattle.label_model.specs.Continuing.{continuing}
use Rattle.label_model.proofs.ContinuingSteps.{continuing_law}
use Rattle.wf_recur.specs.Cycles.{step_of}
use Rattle.decode_model.specs.Rounds.{AreContinuing}
use Rattle.decode_model.specs.Legs.{Leg, One, Chain, Part, leg_steps}
use Rattle.decode_model.specs.Counts.{IsLegsOfPlace, ends, goes, ends_after, goes_after, ends_part, goes_part}
use Rattle.decode_model.proofs.ChainLegs.{chain_leg_law}
use Rattle.wf_vlabel.specs.Seen.{ViewLabelSeen, IsViewLabel}
use Rattle.wf_decode.specs.declared.leg.Leg.{Leg as LegHeld}
use Rattle.wf_decode.specs.declared.leg.Leg.TheVariants.{Into as IntoHeld, Chain as ChainHeld}
use Rattle.wf_decode.specs.HeldLegs.{module_on, round_from, chain_from, is_whole, legs_of, StandsOn, AreHeld}
use Rattle.wf_recur.proofs.Places.{place_on_cycle}
use Rattle.wf_decode.proofs.LegsHeld.{held_round, held_some}

-- continuing steps lead to a module that derives the first and is derived by it
derives_along : (g : Grammar) (m : ℕ) (a : List Step) → AreContinuing g m a → Derives g m (module_along g m a) × Derives g (module_along g m a) m
derives_along g m [] x = (here, here)
derives_along g m (s ∷ a) x =
    let r = derives_along g (target_of g s) a x.1 in
    (onward (step_makes g m s x.0.0) r.0, walk-append r.1 x.0.1)

module _ (g : Grammar) (m from n : ℕ) (e : from ≡ m) (on : IsOnCycle g m) (there : Derives g m n) (back : Derives g n m) (round steps : List Step) (c : ℕ) (s : Step) (st : IsStepOf g n s) where
  -- a chain, and a last step after it
  chain_ends : (b : Bool) → IsLegsOfPlace g m (cond b (Chain from round c) (Part from steps) ∷ One s ∷ [])
  chain_ends true = subst (λ z. IsLegsOfPlace g m (Chain z round c ∷ One s ∷ [])) (sym e) (ends_after n s on there back st)
  chain_ends false = subst (λ z. IsLegsOfPlace g m (Part z steps ∷ One s ∷ [])) (sym e) (ends_part n s on there back st)

  -- a chain, a step after it, and what comes then
  chain_goes : (legs : List Leg) → (Continues g n s → ⊥) → IsLegsOfPlace g (target_of g s) legs → (b : Bool) → IsLegsOfPlace g m (cond b (Chain from round c) (Part from steps) ∷ One s ∷ legs)
  chain_goes legs out rest true = subst (λ z. IsLegsOfPlace g m (Chain z round c ∷ One s ∷ legs)) (sym e) (goes_after n s on there back st out rest)
  chain_goes legs out rest false = subst (λ z. IsLegsOfPlace g m (Part z steps ∷ One s ∷ legs)) (sym e) (goes_part n s on there back st out rest)

module _ (l : ViewLabelSeen) (is : IsViewLabel l) where
  goes_off : (m : ℕ) (s : Step) → continuing l.grammar m ≢ Some s → Continues l.grammar m s → ⊥
  goes_off m s off c = off ((continuing_law l.grammar is.formed is.linear m s).1 c)

  stands_on_cycle : (m k j : ℕ) → StandsOn l m k j → IsOnCycle l.grammar m
  stands_on_cycle m k j s = subst (IsOnCycle l.grammar) s.is (place_on_cycle l.grammar l.cycles is.cycles_are k j s.cycle s.place)

  -- legs of an address, which is not empty, are legs of a place
  pub place_held : (m : ℕ) (x : LegHeld) (legs : List LegHeld) → AreHeld l m false (x ∷ legs) → IsLegsOfPlace l.grammar m (legs_of l (x ∷ legs))
  place_held m (IntoHeld s) [] h = ends (step_of s) h.1
  place_held m (IntoHeld s) (y ∷ legs) h =
      goes (step_of s) h.1 (goes_off m (step_of s) (h.2 (λ e. absurd (cc)))) (place_held (target_of l.grammar (step_of s)) y legs h.3)
  place_held m (ChainHeld k j n) [] h = absurd (true≢false h.3)
  place_held m (ChainHeld k j n) (ChainHeld k' j' n' ∷ legs) h = absurd (true≢false h.3.0)
  place_held m (ChainHeld k j n) (IntoHeld s ∷ []) h =
      let chain = chain_from l.cycles k.0 j n in
      let round = round_from l.cycles k.0 j in
      let d = derives_along l.grammar m (leg_steps chain) (chain_leg_law l.grammar m n round (held_round l is m k.0 j h.1) (held_some l is m k.0 j h.1)).continuing in
      chain_ends l.grammar m (module_on l.cycles k.0 j) (module_along l.grammar m (leg_steps chain)) h.1.is (stands_on_cycle m k.0 j h.1) d.0 d.1 round (leg_steps chain) n (step_of s) h.3.1 (is_whole l k.0)
  place_held m (ChainHeld k j n) (IntoHeld s ∷ y ∷ legs) h =
      let chain = chain_from l.cycles k.0 j n in
      let round = round_from l.cycles k.0 j in
      let at = module_along l.grammar m (leg_steps chain) in
      let d = derives_along l.grammar m (leg_steps chain) (chain_leg_law l.grammar m n round (held_round l is m k.0 j h.1) (held_some l is m k.0 j h.1)).continuing in
      let rest = place_held (target_of l.grammar (step_of s)) y legs h.3.3 in
      chain_goes l.grammar m (module_on l.cycles k.0 j) at h.1.is (stands_on_cycle m k.0 j h.1) d.0 d.1 round (leg_steps chain) n (step_of s) h.3.1 (legs_of l (y ∷ legs)) (goes_off at (step_of s) (h.3.2 (λ e. absurd (cc)))) rest (is_whole l k.0)
