-- The edges of a body, and their cycles.
use Rattle.std.specs.Prelude.{◌≡◌, ℕ, List}
use Rattle.wf_model.specs.Lists.{IsIn, Walk}
use Rattle.wf_model.specs.Grammar.{Edge}

-- an edge of a body leads from one position to another
abbrev pub IsJoined : List Edge → ℕ → ℕ → Type 0
IsJoined edges a b = (e : Edge) × IsIn e edges × (e.from.position ≡ a) × (e.to.position ≡ b)

-- no edge leads to a position from which edges lead back
abbrev pub IsAcyclic : List Edge → Type 0
IsAcyclic edges = (a b : ℕ) → IsJoined edges a b → Walk (IsJoined edges) b a → ⊥
