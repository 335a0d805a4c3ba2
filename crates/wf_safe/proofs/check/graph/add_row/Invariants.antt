use Rattle.std.proofs.Common.{◌≡◌, ◌-◌, length}
use Rattle.wf_safe.specs.BodyGraph.{row_links}
use Rattle.wf_safe.proofs.LinkGraphs.{Completes}
use Rattle.wf_safe.proofs.check.graph.add_row.Given as goal

-- the pairs that are left
abbrev pub invariant-loop-o : goal.invariant-loop-o
invariant-loop-o l = record {
  count : length l.graph.items ≡ length l.initial.graph.items;
  left : Completes (row_links l.k.0 l.i.0 l.row l.o (l.outputs - l.o)) (row_links l.k.0 l.i.0 l.row 0 l.outputs) l.initial.graph.items l.graph.items;
}
