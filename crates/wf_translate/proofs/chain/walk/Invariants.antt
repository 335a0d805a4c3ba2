use Rattle.wf_loops.specs.Looped.{loop_in}
use Rattle.wf_translate.specs.Chains.{IsWalked, steps_seen}
use Rattle.wf_translate.proofs.chain.walk.Given as goal

abbrev pub invariant-loop-step : goal.invariant-loop-step
invariant-loop-step l =
    IsWalked l.looped.accepted.grammar.core (loop_in l.looped.steps) l.fn.m.0 l.fn.count (steps_seen l.fn.steps.items) (steps_seen l.steps.items) l.k.0 l.left

abbrev pub decreases-loop-step : goal.decreases-loop-step
decreases-loop-step l = l.left
