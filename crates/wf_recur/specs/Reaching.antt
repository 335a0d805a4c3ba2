-- What modules derive, as rows of marks.
use Rattle.std.specs.Prelude.{◌≡◌, ◌↔◌, ℕ, ◌<◌, Bool, true, false, List, [], map, length, get_or, Vec}
use Rattle.std.specs.declared.alloc.Global.{Global}
use Rattle.wf_model.specs.Grammar.{Grammar}
use Rattle.wf_model.specs.Proper.{Derives}

-- the lists in a list of vectors
abbrev pub rows_in : List (Vec Bool Global) → List (List Bool)
rows_in = map (λ (v : Vec Bool Global). v.items)

-- a mark for each module, set exactly if the module a derives it
pub record IsRow (g : Grammar) (a : ℕ) (row : List Bool) : Type 0 where
  pub across : length row ≡ length g.modules
  pub told : (b : ℕ) → (get_or row b false ≡ true) ↔ Derives g a b

-- a row for each module
pub record AreDerived (g : Grammar) (rows : List (List Bool)) : Type 0 where
  pub one_each : length rows ≡ length g.modules
  pub each : (a : ℕ) → a < length g.modules → IsRow g a (get_or rows a [])
