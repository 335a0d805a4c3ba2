use Rattle.std.proofs.Common.{subst, sym}
use Rattle.wf_model.specs.Grammar.{Grammar}
use Rattle.label_model.specs.Labels.{IsLabel}
use Rattle.verdict_model.specs.Verdicts.{IsVerdict}
use Rattle.wf_verdict.proofs.verdict.verdict_of.Goals as goal

-- the view label is of the same grammar and the same view
pub returns : goal.returns
returns c = record {
  verdict = λ x y first second of other.
      let same = c.in_ok-label.ensures.grammar in
      let label = c.in_ok-label.ensures.label in
      subst (λ (g : Grammar). IsVerdict g c.args.v.now.view.core x y c.decided.result) same
      (c.decided.ensures c.args.v.now.view.core x y label (subst (λ (g : Grammar). IsLabel g x) (sym same) first) (subst (λ (g : Grammar). IsLabel g y) (sym same) second) of other);
}
