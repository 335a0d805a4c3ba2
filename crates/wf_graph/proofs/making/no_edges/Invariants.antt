use Rattle.std.proofs.Common.{◌≡◌, ℕ, length}
use Rattle.wf_graph.specs.Graph.{HasEdge}
use Rattle.wf_graph.proofs.making.no_edges.Given as goal

abbrev pub invariant-loop-k : goal.invariant-loop-k
invariant-loop-k l = record { count : length l.graph.items ≡ l.k; none : (a b : ℕ) → HasEdge l.graph.items a b → ⊥ }
