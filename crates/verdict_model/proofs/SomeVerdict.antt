-- Two labels of a grammar have a verdict under a safe view.
use Rattle.std.proofs.Common.{◌++◌, inl, inr, ⊎_elim}
use Rattle.wf_model.specs.Grammar.{Grammar}
use Rattle.wf_model.specs.WellFormed.{IsWellFormed}
use Rattle.wf_model.specs.Proper.{IsProper}
use Rattle.wf_model.specs.View.{View}
use Rattle.wf_model.specs.Safe.{IsSafe}
use Rattle.wf_model.specs.Finishing.{ExpandsComposites}
use Rattle.wf_model.proofs.Deciding.{Either}
use Rattle.wf_laws.proofs.Growth.{finishing_law}
use Rattle.wf_laws.proofs.DependsOrNot.{depends_either}
use Rattle.label_model.specs.Labels.{Label, IsLabel}
use Rattle.verdict_model.specs.declared.verdict.Verdict.{Verdict}
use Rattle.verdict_model.specs.declared.verdict.Verdict.TheVariants.{Hidden1, Hidden2, Clash, Yes, No}
use Rattle.verdict_model.specs.Verdicts.{IsHidden, AreShown, AreClashing, HasBoth, IsVerdict}
use Rattle.verdict_model.proofs.Answering.{one_answer_law}
use Rattle.verdict_model.proofs.BothLabels.{both_law}
use Rattle.verdict_model.proofs.Clashing.{either_law}

module _ (g : Grammar) (u : View) (formed : IsWellFormed g) (proper : IsProper g) (composites : ExpandsComposites g u) (safe : IsSafe g u) (x y : Label) (of_first : IsLabel g x) (of_second : IsLabel g y) where
  -- where neither is hidden and they do not clash, a run that has both tells it, finished in one way
  told_by_run : AreShown g u x y → (AreClashing g x y → ⊥) → (v : Verdict) × IsVerdict g u x y v
  told_by_run shown apart =
      let r = both_law g formed x y of_first of_second apart in
      let f = finishing_law g u proper composites g.start r.0 r.1 in
      let both : HasBoth g u x y r.0 f.0 r.2.0 r.3.0 = record { run = r.1; first = r.2.1; second = r.3.1; finishing = f.1 } in
      ⊎_elim
      (λ d. (Yes, (shown, apart, (one_answer_law g u formed proper composites safe x y shown).always r.0 f.0 r.2.0 r.3.0 both d)))
      (λ none. (No, (shown, apart, λ always. none (always r.0 f.0 r.2.0 r.3.0 both))))
      (depends_either g u (r.0 ++ f.0) r.2.0 r.3.0)

  pub some_verdict : (v : Verdict) × IsVerdict g u x y v
  some_verdict = by (either_law g u formed x y of_first of_second).hidden (either_law g u formed y x of_second of_first).hidden (either_law g u formed x y of_first of_second).clash
    where
      by : Either (IsHidden g u x) → Either (IsHidden g u y) → Either (AreClashing g x y) → (v : Verdict) × IsVerdict g u x y v
      by (inl hidden) second clash = (Hidden1, hidden)
      by (inr shown) (inl hidden) clash = (Hidden2, (shown, hidden))
      by (inr shown) (inr shown_too) (inl clash) = (Clash, ((shown, shown_too), clash))
      by (inr shown) (inr shown_too) (inr apart) = told_by_run (shown, shown_too) apart
