-- Query lines.
use Rattle.std.specs.Prelude.{◌≡◌, ℕ, List, ◌++◌, ◌∷◌}
use Rattle.wf_model.specs.Items.{IsItemName}

-- the line is two item names, with one space between
abbrev pub IsQuery : List ℕ → List ℕ → List ℕ → Type 0
IsQuery line first second = (line ≡ first ++ 32 ∷ second) × IsItemName first × IsItemName second

-- the line is no two item names with one space between
abbrev pub IsNoQuery : List ℕ → Type 0
IsNoQuery line = (first second : List ℕ) → IsQuery line first second → ⊥

-- a line is a query in one way
abbrev pub QueryLaw : Type 0
QueryLaw = (line a b c d : List ℕ) → IsQuery line a b → IsQuery line c d → (a ≡ c) × (b ≡ d)
