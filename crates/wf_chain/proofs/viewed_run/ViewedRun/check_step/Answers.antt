use Rattle.std.proofs.Common.{sym, ◌∙◌, true≢false}
use Rattle.wf_chain.proofs.viewed_run.ViewedRun.check_step.Goals as goal

pub returns-clause-wrong : goal.returns-clause-wrong
returns-clause-wrong c = (
  c.in-Some.ensures.consumes,
  λ h. true≢false (sym (c.leads_to.ensures.1 ((c.in-Some.ensures.onward c.args.step.now.item c.requires.step.item).0 h)) ∙ c.if-leads_to.false),
)

pub returns-then-leads_to-clause-right : goal.returns-then-leads_to-clause-right
returns-then-leads_to-clause-right c = (c.in-Some.ensures.onward c.args.step.now.item c.requires.step.item).1 (c.leads_to.ensures.0 c.if-leads_to.true)
