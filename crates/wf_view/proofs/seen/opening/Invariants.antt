use Rattle.std.proofs.Common.{◌≡◌, ◌<◌, ◌↔◌, ℕ, false, get_or, length, true}
use Rattle.wf_model.specs.Proper.{Makes}
use Rattle.wf_graph.specs.Graph.{HasEdge}
use Rattle.wf_view.proofs.seen.opening.Given as goal

abbrev pub invariant-loop-m : goal.invariant-loop-m
invariant-loop-m l = record {
  count : length l.graph.items ≡ l.m;
  edges : (a b : ℕ) → HasEdge l.graph.items a b ↔ ((a < l.m) × ((get_or l.marks a false ≡ true) × Makes l.g.core a b));
}
