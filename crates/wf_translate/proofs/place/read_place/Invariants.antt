use Rattle.std.proofs.Common.{[], length}
use Rattle.wf_loops.specs.Looped.{loop_in}
use Rattle.wf_translate.specs.Chains.{IsStepRead, steps_seen}
use Rattle.wf_translate.proofs.place.read_place.Given as goal

abbrev pub invariant-loop-steps : goal.invariant-loop-steps
invariant-loop-steps l =
    IsStepRead l.looped.accepted.grammar.core (loop_in l.looped.steps) l.looped.accepted.grammar.core.start l.fn.reader.left l.reader.left [] (steps_seen l.steps.items) l.m.0

abbrev pub decreases-loop-steps : goal.decreases-loop-steps
decreases-loop-steps l = length l.reader.left
