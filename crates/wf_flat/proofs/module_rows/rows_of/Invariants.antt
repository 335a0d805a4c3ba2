use Rattle.std.proofs.Common.{◌≡◌}
use Rattle.wf_flat.proofs.RowSteps.{rows_from}
use Rattle.wf_flat.proofs.module_rows.rows_of.Given as goal

abbrev pub invariant-loop-m : goal.invariant-loop-m
invariant-loop-m l = l.rows.items ≡ rows_from l.g.core l.leaf 0 l.m
