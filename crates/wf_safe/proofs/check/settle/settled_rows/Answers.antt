use Rattle.wf_safe.specs.Witness.{chosen_in}
use Rattle.wf_safe.proofs.OnlyShown.{begun}
use Rattle.wf_view.proofs.KnownViews.{held}
use Rattle.wf_safe.proofs.Settling.{right_along, all_settled}
use Rattle.wf_safe.proofs.check.settle.settled_rows.Goals as goal

pub loop-rows-init : goal.loop-rows-init
loop-rows-init c =
    let v = c.args.v in
    begun v.grammar.now.core v.view.now (held v.grammar.now.core v.view.now v.held) c.in_ok-rows.rows c.in_ok-rows.ensures.shown (chosen_in c.args.choice.now) c.requires.choice

pub loop-rows-preserved : goal.loop-rows-preserved
loop-rows-preserved c = right_along c.args.v.grammar.now.core c.args.v.view.now.core (chosen_in c.args.choice.now) c.requires.choice c.shown_table.ensures.formed c.in_ok-round.ensures.tried.steps c.loop-rows.invariant

pub returns : goal.returns
returns c = all_settled c.args.v.grammar.now.core c.args.v.view.now.core (chosen_in c.args.choice.now) c.requires.choice c.loop-rows.rows c.round.new.rows c.in_ok-round.field-0 c.loop-rows.invariant c.in_ok-round.ensures.tried c.if-branch.false
