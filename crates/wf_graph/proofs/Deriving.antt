-- What is reached in a graph in which each module leads to those of its bodies.
use Rattle.std.proofs.Common.{◌≡◌, ◌↔◌, ℕ, Bool, true, false, List, get_or, Vec}
use Rattle.std.specs.declared.alloc.Global.{Global}
use Rattle.wf_model.specs.Grammar.{Grammar}
use Rattle.wf_model.specs.Proper.{Makes, Derives}
use Rattle.wf_model.proofs.Walks.{walk_through, walk_one}
use Rattle.wf_graph.specs.Graph.{HasEdge, IsReached}

pub derived_reached : (g : Grammar) (graph : List (Vec ℕ Global)) (marks : List Bool) (from : ℕ) → ((a b : ℕ) → HasEdge graph a b ↔ Makes g a b) → ((v : ℕ) → (get_or marks v false ≡ true) ↔ IsReached graph from v) → (v : ℕ) → (get_or marks v false ≡ true) ↔ Derives g from v
derived_reached g graph marks from edges reached v = (
  λ e. walk_through (λ z. z) (λ a b i. walk_one ((edges a b).0 i)) ((reached v).0 e),
  λ d. (reached v).1 (walk_through (λ z. z) (λ a b m. walk_one ((edges a b).1 m)) d),
)
