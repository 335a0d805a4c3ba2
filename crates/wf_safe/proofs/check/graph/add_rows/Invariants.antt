use Rattle.std.proofs.Common.{◌≡◌, ◌-◌, length}
use Rattle.wf_safe.specs.BodyGraph.{matrix_links}
use Rattle.wf_safe.proofs.LinkGraphs.{Completes}
use Rattle.wf_safe.proofs.check.graph.add_rows.Given as goal

-- the rows that are left
abbrev pub invariant-loop-i : goal.invariant-loop-i
invariant-loop-i l = record {
  count : length l.graph.items ≡ length l.initial.graph.items;
  left : Completes (matrix_links l.k.0 l.rows l.outputs l.i (length l.rows - l.i)) (matrix_links l.k.0 l.rows l.outputs 0 (length l.rows)) l.initial.graph.items l.graph.items;
}
