use Rattle.wf_flat.specs.Table.{IsTableOf}
use Rattle.label_trials.proofs.events.table.Given as goal

abbrev pub invariant-loop-given : goal.invariant-loop-given
invariant-loop-given l = IsTableOf l.g.core l.run
