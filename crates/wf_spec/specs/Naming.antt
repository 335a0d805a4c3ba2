-- Names turned into numbers.
use Rattle.std.specs.Prelude.{ℕ, List, [], map, get_or, bytes_eq, take}
use Rattle.std.specs.List.{position_or_len}
use Rattle.wf_model.specs.Lists.{IsIn}
use Rattle.wf_model.specs.Grammar.{Module}

-- the place of a name among names, the first, and their number where it is not there
abbrev pub place_of : List (List ℕ) → List ℕ → ℕ
place_of names name = position_or_len (bytes_eq name) names

-- the names of modules
abbrev pub names_of : List Module → List (List ℕ)
names_of = map (λ m. m.name)

-- the module of this number, and one with no ports past the end
abbrev pub module_in : List Module → ℕ → Module
module_in modules m = get_or modules m (record { name = []; inputs = []; outputs = [] })

-- the name at a place is none of those before it
abbrev pub IsNewAt : List (List ℕ) → ℕ → Type 0
IsNewAt names k = ¬ IsIn (get_or names k []) (take k names)
