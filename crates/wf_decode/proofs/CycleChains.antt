-- Continuing steps from the places of a cycle, as the table of cycles has them.
use Rattle.std.proofs.Common.{◌≡◌, ℕ, ◌+◌, ◌%◌, ◌<◌, [], ◌∷◌, ◌++◌, length, Some, refl, sym, ap, ◌∙◌, arith}
use Rattle.wf_model.specs.Grammar.{Grammar}
use Rattle.wf_model.specs.WellFormed.{IsWellFormed}
use Rattle.wf_model.specs.Reach.{module_along}
use Rattle.wf_model.specs.Linear.{IsLinear}
use Rattle.label_model.specs.Continuing.{continuing, after}
use Rattle.label_model.proofs.ContinuingSteps.{continuing_is}
use Rattle.wf_recur.specs.Cycles.{CyclesSeen, round_at, AreCyclesOf}
use Rattle.wf_recur.proofs.Places.{place_told, place_after}
use Rattle.wf_decode.proofs.ChainSteps.{length-round, length-chain}
use Rattle.wf_decode.proofs.HeldRounds.{gone_round}
use Rattle.decode_model.specs.Rounds.{AreContinuing}
use Rattle.decode_model.specs.Legs.{leg_steps}
use Rattle.decode_model.proofs.Rounds.{along_after}
use Rattle.decode_model.proofs.ChainLegs.{chain_leg_law}
use Rattle.wf_decode.specs.HeldLegs.{step_by, step_on, module_on, round_from, chain_from}

module _ (g : Grammar) (t : CyclesSeen) (wf : IsWellFormed g) (lin : IsLinear g) (h : AreCyclesOf g t) where
  -- the steps of a chain are as many continuing steps
  pub chain_continues : (k j n : ℕ) → k < length t.rounds → j < length (round_at t k) → AreContinuing g (module_on t k j) (leg_steps (chain_from t k j n))
  chain_continues k j n c p =
      let many = length-round t k j p in
      (chain_leg_law g (module_on t k j) n (round_from t k j) (gone_round g t wf lin h k j c p) (omega arith)).continuing

  -- they lead to the place that is so many places further on
  chain_to : (k j n q : ℕ) → k < length t.rounds → j < length (round_at t k) → q ≡ (j + n) % length (round_at t k) → module_along g (module_on t k j) (leg_steps (chain_from t k j n)) ≡ module_on t k q
  chain_to k j n q c p e =
      let m = module_on t k j in
      along_after g wf lin m (leg_steps (chain_from t k j n)) (chain_continues k j n c p) ∙ ap (λ z. after g z m) (length-chain t k j p n)
      ∙ place_after g t wf lin h k j n c p ∙ ap (module_on t k) (sym e)

  -- a chain of more steps goes on from there
  chain_more : (k j n r q : ℕ) → k < length t.rounds → j < length (round_at t k) → q ≡ (j + n) % length (round_at t k) →
      leg_steps (chain_from t k j (n + r)) ≡ leg_steps (chain_from t k j n) ++ leg_steps (chain_from t k q r)
  chain_more k j n r q c p e =
      let many = length-round t k j p in
      let l : q < length (round_at t k) = omega (arith, e) in
      let again = length-round t k q l in
      (chain_leg_law g (module_on t k j) n (round_from t k j) (gone_round g t wf lin h k j c p) (omega arith)).parts lin (module_on t k q) r (round_from t k q) (chain_to k j n q c p e) (gone_round g t wf lin h k q c l) (omega arith)

  chain_one : (k j : ℕ) → k < length t.rounds → j < length (round_at t k) → leg_steps (chain_from t k j 1) ≡ step_on t (module_on t k j) ∷ []
  chain_one k j c p =
      let m = module_on t k j in
      let s = step_on t m in
      let many = length-round t k j p in
      let o = place_told g t wf lin h k j c p in
      let told : continuing g m ≡ Some s = o.2 ∙ ap (λ z. Some (step_by z)) (sym o.1) in
      sym ((chain_leg_law g m 1 (round_from t k j) (gone_round g t wf lin h k j c p) (omega arith)).only lin (s ∷ []) (continuing_is g m s told, tt) refl)

  -- a longer chain is n steps, the continuing step of the place to which they lead, and the rest from the place after it
  pub chain_split : (k j n r q w : ℕ) → k < length t.rounds → j < length (round_at t k) → q ≡ (j + n) % length (round_at t k) → w ≡ (q + 1) % length (round_at t k) →
      leg_steps (chain_from t k j (n + (1 + r))) ≡ leg_steps (chain_from t k j n) ++ step_on t (module_on t k q) ∷ leg_steps (chain_from t k w r)
  chain_split k j n r q w c p e f =
      let l : q < length (round_at t k) = omega (arith, e) in
      chain_more k j n (1 + r) q c p e
      ∙ ap (λ z. leg_steps (chain_from t k j n) ++ z) (chain_more k q 1 r w c l f ∙ ap (λ z. z ++ leg_steps (chain_from t k w r)) (chain_one k q c l))
