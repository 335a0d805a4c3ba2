-- Graphs of numbered vertices.
use Rattle.std.specs.Prelude.{ℕ, zero, suc, ◌<◌, List, [], ◌∷◌, length, Vec}
use Rattle.std.specs.declared.alloc.Global.{Global}
use Rattle.wf_model.specs.Lists.{IsIn, Walk}

-- an edge leads from one vertex to the other, where each vertex leads to a list of vertices
abbrev pub HasStep : (ℕ → List ℕ) → ℕ → ℕ → Type 0
HasStep row a b = IsIn b (row a)

-- the vertices to which a vertex leads
abbrev pub nexts : List (Vec ℕ Global) → ℕ → List ℕ
nexts [] v = []
nexts (x ∷ xs) zero = x.items
nexts (x ∷ xs) (suc v) = nexts xs v

-- an edge leads from one vertex to the other
abbrev pub HasEdge : List (Vec ℕ Global) → ℕ → ℕ → Type 0
HasEdge graph a b = IsIn b (nexts graph a)

-- each edge leads to a vertex
abbrev pub InRange : List (Vec ℕ Global) → Type 0
InRange graph = (a b : ℕ) → HasEdge graph a b → b < length graph

-- a walk along edges leads from one vertex to the other
abbrev pub IsReached : List (Vec ℕ Global) → ℕ → ℕ → Type 0
IsReached graph = Walk (HasEdge graph)
