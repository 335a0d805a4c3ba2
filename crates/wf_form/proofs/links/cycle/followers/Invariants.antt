use Rattle.std.proofs.Common.{◌≡◌, ◌↔◌, ℕ, length, take, map}
use Rattle.wf_model.specs.Meaning.{edge_of}
use Rattle.wf_graph.specs.Graph.{HasEdge}
use Rattle.wf_form.specs.Graphs.{IsJoined}
use Rattle.wf_form.proofs.links.cycle.followers.Given as goal

abbrev pub invariant-loop-e : goal.invariant-loop-e
invariant-loop-e l = record {
  count : length l.graph.items ≡ l.count;
  edges : (a b : ℕ) → HasEdge l.graph.items a b ↔ IsJoined (map edge_of (take l.e-index l.edges)) a b;
}
