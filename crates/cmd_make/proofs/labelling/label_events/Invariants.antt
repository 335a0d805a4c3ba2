use Rattle.std.proofs.Common.{◌≡◌, length}
use Rattle.cmd_make.proofs.RunLabelled.{IsLabelledSoFar}
use Rattle.cmd_make.proofs.labelling.label_events.Given as goal

-- some events were taken, and the others are to come
abbrev pub invariant-loop-event : goal.invariant-loop-event
invariant-loop-event l = record {
  so_far : IsLabelledSoFar l.initial.run.run.grammar l.initial.run.run.most l.initial.generator.events l.generator.events l.run;
  draws : l.generator.draws ≡ l.initial.generator.draws;
}

abbrev pub decreases-loop-event : goal.decreases-loop-event
decreases-loop-event l = length l.generator.events
