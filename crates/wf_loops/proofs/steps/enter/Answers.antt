use Rattle.std.proofs.Common.{◌∙◌, sym}
use Rattle.wf_loops.proofs.OneEntry.{second_here, entered_here}
use Rattle.wf_loops.proofs.steps.enter.Goals as goal

pub returns-then-taken-clause-second : goal.returns-then-taken-clause-second
returns-then-taken-clause-second c = λ t.
    second_here c.args.g.now.core c.args.entry.now c.args.steps.now c.in-Some.m.0 c.in-Some.ensures c.modules-modules.ensures.formed (sym c.is_some-taken.ensures ∙ c.if-taken.true)

pub returns-clause-entered : goal.returns-clause-entered
returns-clause-entered c = λ t.
    entered_here c.args.g.now.core c.args.entry.now c.args.steps.now c.in-Some.m.0 c.in-Some.ensures c.step.result (sym c.is_some-taken.ensures ∙ c.if-taken.false) c.step.ensures
