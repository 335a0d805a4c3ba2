use Rattle.std.proofs.Common.{sym, ◌∙◌, subst}
use Rattle.wf_accept.specs.Accepted.{AcceptedValue}
use Rattle.label_model.specs.Labels.{IsLabel}
use Rattle.verdict_model.specs.Verdicts.{IsVerdict}
use Rattle.cmd_share.proofs.consult.verdict_inside.Goals as goal

pub returns-in-Ok-verdict_of-clause-verdict : goal.returns-in-Ok-verdict_of-clause-verdict
returns-in-Ok-verdict_of-clause-verdict c x y of_x of_y first second =
    let same = c.in-Ok.ensures.accepted in
    let v = c.in-Ok-verdict_of.verdict in
    let told = c.in-Ok-verdict_of.ensures.verdict x y
    (subst (λ (a : AcceptedValue). IsLabel a.grammar.core x) (sym same) of_x)
    (subst (λ (a : AcceptedValue). IsLabel a.grammar.core y) (sym same) of_y)
    (c.label_in.ensures ∙ first) (c.label_in-2.ensures ∙ second) in
    (c.in-Ok.ensures.verdicts x y of_x of_y v).0 (subst (λ (a : AcceptedValue). IsVerdict a.grammar.core c.in-Ok.view.view.core x y v) same told)
