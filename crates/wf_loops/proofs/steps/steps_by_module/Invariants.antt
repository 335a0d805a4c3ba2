use Rattle.std.proofs.Common.{take}
use Rattle.wf_loops.specs.Entries.{AreStepsByEntries}
use Rattle.wf_loops.specs.Tables.{steps_in}
use Rattle.wf_loops.proofs.steps.steps_by_module.Given as goal

abbrev pub invariant-loop-entry : goal.invariant-loop-entry
invariant-loop-entry l = AreStepsByEntries l.g.core (take l.entry-index l.entries) (steps_in l.steps.items)
