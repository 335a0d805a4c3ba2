-- There is one list of steps once round a cycle from a module of it.
use Rattle.std.proofs.Common.{◌≡◌, ℕ, ◌<◌, List, length, get_or, take, sym, ap, ◌∙◌, inl, inr, arith, length-take}
use Rattle.std.proofs.lemmas.Bool.{cases_eq}
use Rattle.wf_model.specs.Grammar.{Grammar}
use Rattle.wf_model.specs.WellFormed.{IsWellFormed}
use Rattle.wf_model.specs.Linear.{IsLinear}
use Rattle.wf_model.specs.Reach.{Step}
use Rattle.label_model.specs.Continuing.{after}
use Rattle.decode_model.proofs.Rounds.{continuing_take, along_after}
use Rattle.wf_recur.specs.Cycles.{CyclesSeen, round_at, AreCyclesOf}
use Rattle.wf_recur.proofs.Places.{place_back, place_back_least}
use Rattle.wf_vlabel.specs.RoundSteps.{steps_on, IsOnce}
use Rattle.wf_vlabel.proofs.Chains.{steps_told}

module _ (g : Grammar) (t : CyclesSeen) (c p : ℕ) (wf : IsWellFormed g) (lin : IsLinear g) (h : AreCyclesOf g t) (i : c < length t.rounds) (l : p < length (round_at t c)) where
  -- steps once round are as many as the cycle has modules
  pub once_length : (round : List Step) → IsOnce g (get_or (round_at t c) p 0) round → length round ≡ length (round_at t c)
  once_length round o =
      let m = get_or (round_at t c) p 0 in
      let size = length (round_at t c) in
      let low = place_back_least g t wf lin h c p (length round) i l o.some (sym (along_after g wf lin m round o.goes_round.continuing) ∙ o.goes_round.back) in
      let high : size < length round → ⊥ = λ few. o.least size (omega arith) few
      (along_after g wf lin m (take size round) (continuing_take g m size round o.goes_round.continuing) ∙ (ap (λ z. after g z m) (let e = length-take size round in let w : length (take size round) ≡ size = omega arith in w) ∙ place_back g t wf lin h c p i l)) in
      elim (cases_eq (length round) size) [
        | inl same ↦ same
        | inr not ↦ absurd (high (omega arith))
      ]

  -- so they are these
  pub once_told : (round : List Step) → IsOnce g (get_or (round_at t c) p 0) round → round ≡ steps_on g (length (round_at t c)) (get_or (round_at t c) p 0)
  once_told round o = steps_told g wf lin (get_or (round_at t c) p 0) round o.goes_round.continuing ∙ ap (λ n. steps_on g n (get_or (round_at t c) p 0)) (once_length round o)
