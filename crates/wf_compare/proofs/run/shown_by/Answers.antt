use Rattle.std.proofs.Common.{subst}
use Rattle.wf_model.specs.Lists.{IsIn}
use Rattle.wf_compare.proofs.OpenRows.{all_there}
use Rattle.wf_compare.proofs.run.shown_by.Goals as goal

pub run_along-requires-clause-productions : goal.run_along-requires-clause-productions
run_along-requires-clause-productions c = λ s i.
    (all_there c.args.v.grammar.now.core c.args.v.view.now.core c.args.v.grammar.now.core.start c.in_ok-steps.steps.items c.in_ok-steps.ensures.route.leads.0 s (subst (IsIn s) c.deref.ensures.value i)).production

pub run_along-requires-clause-positions : goal.run_along-requires-clause-positions
run_along-requires-clause-positions c = λ s i.
    (all_there c.args.v.grammar.now.core c.args.v.view.now.core c.args.v.grammar.now.core.start c.in_ok-steps.steps.items c.in_ok-steps.ensures.route.leads.0 s (subst (IsIn s) c.deref.ensures.value i)).position
