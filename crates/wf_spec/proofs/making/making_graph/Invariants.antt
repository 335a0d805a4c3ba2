use Rattle.std.proofs.Common.{◌≡◌, ◌<◌, ◌↔◌, ℕ, length}
use Rattle.wf_model.specs.Proper.{Makes}
use Rattle.wf_graph.specs.Graph.{HasEdge}
use Rattle.wf_spec.proofs.making.making_graph.Given as goal

abbrev pub invariant-loop-m : goal.invariant-loop-m
invariant-loop-m l = record {
  count : length l.graph.items ≡ l.m;
  edges : (a b : ℕ) → HasEdge l.graph.items a b ↔ ((a < l.m) × Makes l.g.core a b);
}
