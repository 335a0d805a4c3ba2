use Rattle.wf_spec.specs.GivenRows.{table_of, AreFirst}
use Rattle.wf_spec.proofs.lists.rows.first_rows.Given as goal

abbrev pub invariant-loop-k : goal.invariant-loop-k
invariant-loop-k l = AreFirst l.modules l.named l.k (table_of l.table.items)
