-- The program comes to its outcome, or wants memory; where the call is good, all is done.
use Rattle.std.proofs.Common.{◌≡◌, ◌⊎◌, ℕ, List, Option, Some, refl, ap, ◌∙◌, subst, inl, inr, ⊎_elim}
use Rattle.std.specs.Prelude.{Bool}
use Rattle.wf_io.specs.Told.{File, Appended}
use Rattle.wf_message.specs.declared.status.Status.{Status}
use Rattle.wf_message.specs.declared.status.Status.TheVariants.{WriteFault as IsWriteFault, NoMemory as WantsMemory}
use Rattle.wf_message.specs.Endings.{End, Done, Usage, Refused, ReadFault, WriteFault, NoMemory, status_of}
use Rattle.wf_stage.specs.Ends.{IsOfOutcome}
use Rattle.wf_top.specs.Outcome.{IsOutcome}
use Rattle.wf_top.specs.Meets.{HasEnded}
use Rattle.outcome_laws.specs.Laws.{OneOutcomeLaw}
use Rattle.outcome_laws.specs.GoodCalls.{IsGoodCall, GoodCallLaw, EndedAs, IsComplete}

-- an end is one of the outcome, or says nothing of files
end_cases : (e : End) → IsOfOutcome e ⊎ ((e ≡ WriteFault) ⊎ (e ≡ NoMemory))
end_cases Done = inl (λ p. absurd (cc), λ p. absurd (cc))
end_cases Usage = inl (λ p. absurd (cc), λ p. absurd (cc))
end_cases (Refused word line fault) = inl (λ p. absurd (cc), λ p. absurd (cc))
end_cases (ReadFault word) = inl (λ p. absurd (cc), λ p. absurd (cc))
end_cases WriteFault = inr (inl refl)
end_cases NoMemory = inr (inr refl)

module _ (f : List ℕ → File) (words : List (List ℕ)) (status : Status) (old new p q : Option (List ℕ)) (before after : ℕ) (at_last : Bool)
    (h : HasEnded (Some f) words status old new p q before after at_last) (written : status ≡ IsWriteFault → ⊥) where
  -- a call that writes without a fault has the end and the text of an outcome, or wants memory
  by_outcome : ((text : List ℕ) × IsOutcome f words h.ending text × Appended text old new) ⊎ (status ≡ WantsMemory)
  by_outcome = ⊎_elim
      (λ of_outcome. inl ((h.outcome f refl).whole of_outcome))
      (λ other. ⊎_elim (λ is. absurd (written (h.status_is ∙ ap status_of is))) (λ is. inr (h.status_is ∙ ap status_of is)) other)
      (end_cases h.ending)

  -- whatever the outcome is
  pub ended_as : OneOutcomeLaw → (e : End) (text : List ℕ) → IsOutcome f words e text → EndedAs e text status old new
  ended_as one e text told = ⊎_elim
      (λ r. let same = one f words h.ending e r.0 text r.1 told in
      inl (h.status_is ∙ ap status_of same.0, subst (λ x. Appended x old new) same.1 r.2))
      (λ wants. inr wants)
      by_outcome

  -- and where the call is good, all is done
  pub complete : GoodCallLaw → IsGoodCall f words → IsComplete f words status old new
  complete done good = ⊎_elim
      (λ r. let is = done f words h.ending r.0 good r.1 in
      inl (h.status_is ∙ ap status_of is, (r.0, subst (λ x. IsOutcome f words x r.0) is r.1, r.2)))
      (λ wants. inr wants)
      by_outcome
