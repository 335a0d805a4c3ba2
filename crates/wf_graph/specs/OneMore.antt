-- A graph that gets one edge more.
use Rattle.std.specs.Prelude.{◌≡◌, ◌↔◌, ◌⊎◌, ℕ, List, Vec}
use Rattle.std.specs.declared.alloc.Global.{Global}
use Rattle.wf_graph.specs.Graph.{HasEdge}

-- the edges of one graph are those of the other, and one from a to b
abbrev pub HasOneMore : List (Vec ℕ Global) → ℕ → ℕ → List (Vec ℕ Global) → Type 0
HasOneMore before a b after = (x y : ℕ) → HasEdge after x y ↔ (HasEdge before x y ⊎ ((x ≡ a) × (y ≡ b)))
