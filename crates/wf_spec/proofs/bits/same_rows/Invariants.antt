use Rattle.std.proofs.Common.{◌≡◌, replicate}
use Rattle.wf_spec.proofs.bits.same_rows.Given as goal

abbrev pub invariant-loop-k : goal.invariant-loop-k
invariant-loop-k l = l.rows.items ≡ replicate l.k l.row
