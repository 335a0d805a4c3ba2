-- The steps once round a cycle, as the table of cycles has them.
use Rattle.std.proofs.Common.{◌≡◌, ℕ, suc, ◌<◌, List, [], ◌∷◌, ◌++◌, map, length, take, drop, get_or, Some, refl, sym, ap, ◌∙◌, subst, arith}
use Rattle.wf_model.specs.Grammar.{Grammar}
use Rattle.wf_model.specs.WellFormed.{IsWellFormed}
use Rattle.wf_model.specs.Reach.{Step, target_of, module_along}
use Rattle.wf_model.specs.Linear.{IsLinear, Continues}
use Rattle.label_model.specs.Continuing.{continuing, next_by, after}
use Rattle.label_model.proofs.ContinuingSteps.{continuing_is, target_continues}
use Rattle.wf_recur.specs.Cycles.{CyclesSeen, OnSeen, round_at, AreCyclesOf}
use Rattle.decode_model.specs.Rounds.{AreContinuing, IsRound as IsGoneRound}
use Rattle.decode_model.specs.Legs.{leg_steps}
use Rattle.decode_model.proofs.ChainLegs.{chain_leg_law}
use Rattle.wf_decode.specs.HeldLegs.{step_by, step_on, module_on, round_from, chain_from}
use Rattle.wf_recur.proofs.Telling.{continues_below}
use Rattle.wf_recur.proofs.Places.{stands_somewhere, step_told, place_told, place_after, place_back}
use Rattle.wf_decode.proofs.ChainSteps.{get_or-turned, length-turned, length-round}
use Rattle.std.proofs.lemmas.Option.{none-some, same_Some}
use Rattle.std.specs.Prelude.{option_map}

module _ (g : Grammar) (t : CyclesSeen) (wf : IsWellFormed g) (lin : IsLinear g) (cycles : AreCyclesOf g t) where
  -- the table has the continuing step of each module
  pub step_on_is : (m : ℕ) (s : Step) → continuing g m ≡ Some s → step_on t m ≡ s
  step_on_is m s e =
      let low = continues_below g wf m s (continuing_is g m s e) in
      let q = stands_somewhere g t cycles m low (λ n. none-some s (sym n ∙ e)) in
      ap step_by q.1 ∙ same_Some q.0.step s (sym (ap (option_map (λ (o : OnSeen). o.step)) q.1) ∙ step_told g t wf lin cycles m low ∙ e)

  -- modules to which more and more continuing steps lead, and their continuing steps
  run_along : (ms : List ℕ) (m : ℕ) (s : Step) → continuing g m ≡ Some s → ((i : ℕ) → i < length ms → get_or ms i 0 ≡ after g i m) →
      AreContinuing g m (map (step_on t) ms) × (module_along g m (map (step_on t) ms) ≡ after g (length ms) m)
  run_along [] m s e at = (tt, refl)
  run_along (x ∷ ms) m s e at =
      let first : x ≡ m = at 0 (omega arith) in
      let is : step_on t x ≡ s = ap (step_on t) first ∙ step_on_is m s e in
      let next = target_continues g wf m s e in
      let rest = run_along ms (target_of g s) next.0 next.1 (λ i l. at (suc i) (omega arith) ∙ ap (λ o. after g i (next_by g m o)) e) in
      subst (λ z. (Continues g m z × AreContinuing g (target_of g z) (map (step_on t) ms)) × (module_along g (target_of g z) (map (step_on t) ms) ≡ after g (suc (length ms)) m)) (sym is)
      ((continuing_is g m s e, rest.0), rest.1 ∙ ap (λ o. after g (length ms) (next_by g m o)) (sym e))

  module _ (k j : ℕ) (h : k < length t.rounds) (i : j < length (round_at t k)) where
    -- the steps from a place lead once round the cycle
    pub gone_round : IsGoneRound g (module_on t k j) (round_from t k j)
    gone_round =
        let round = round_at t k in
        let m = module_on t k j in
        let ms = drop j round ++ take j round in
        let many = length-turned t k j i in
        let on = place_told g t wf lin cycles k j h i in
        let run = run_along ms m on.0.step on.2 (λ n l. let low : n < length round = omega (arith, many) in get_or-turned round j n i low ∙ sym (place_after g t wf lin cycles k j n h i)) in
        record {
          continuing = run.0;
          back = run.1 ∙ (ap (λ n. after g n m) many ∙ place_back g t wf lin cycles k j h i);
        }

    -- continuing steps from the place are those of the chain that is held
    pub chain_steps : (m n : ℕ) (chain : List Step) → module_on t k j ≡ m → AreContinuing g m chain → length chain ≡ n → chain ≡ leg_steps (chain_from t k j n)
    chain_steps m n chain is goes many =
        let some : 0 < length (round_from t k j) = omega (arith, length-round t k j i) in
        (chain_leg_law g (module_on t k j) n (round_from t k j) gone_round some).only lin chain (subst (λ z. AreContinuing g z chain) (sym is) goes) many
