use Rattle.std.proofs.Common.{◌≡◌, length, map, drop}
use Rattle.wf_model.specs.Links.{edge_link}
use Rattle.wf_model.specs.Meaning.{edge_of}
use Rattle.wf_safe.proofs.LinkGraphs.{Completes}
use Rattle.wf_safe.proofs.check.graph.add_edges.Given as goal

-- the edges that are left
abbrev pub invariant-loop-e : goal.invariant-loop-e
invariant-loop-e l = record {
  count : length l.graph.items ≡ length l.initial.graph.items;
  left : Completes (map edge_link (map edge_of (drop l.e-index l.edges))) (map edge_link (map edge_of l.edges)) l.initial.graph.items l.graph.items;
}
