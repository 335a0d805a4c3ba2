use Rattle.std.proofs.Common.{take}
use Rattle.wf_spec.specs.GivenRows.{table_of, AreAllAdded}
use Rattle.wf_spec.proofs.lists.rows.add_given.Given as goal

abbrev pub invariant-loop-part : goal.invariant-loop-part
invariant-loop-part l = AreAllAdded (take l.part-index l.given) (table_of l.initial.table) (table_of l.table)
