use Rattle.wf_safe.specs.Witness.{chosen_in}
use Rattle.wf_safe.proofs.ChoiceTold.{by_productions, not_by_modules}
use Rattle.wf_view.proofs.KnownViews.{held}
use Rattle.wf_safe.proofs.check.choice.is_choice.Goals as goal

pub returns-then-are_for_all-clause-told : goal.returns-then-are_for_all-clause-told
returns-then-are_for_all-clause-told c = by_productions c.args.v.grammar.now.core c.args.v.view.now c.are_for_all.ensures.formed (held c.args.v.grammar.now.core c.args.v.view.now c.args.v.held) (chosen_in c.args.choice.now) c.are_productions.result (c.are_for_all.ensures.told.0 c.if-are_for_all.true) c.are_productions.ensures

pub returns-else-are_for_all-clause-told : goal.returns-else-are_for_all-clause-told
returns-else-are_for_all-clause-told c = not_by_modules c.args.v.grammar.now.core c.args.v.view.now c.are_for_all.ensures.formed (held c.args.v.grammar.now.core c.args.v.view.now c.args.v.held) (chosen_in c.args.choice.now) c.are_for_all.result c.are_for_all.ensures.told c.if-are_for_all.false
