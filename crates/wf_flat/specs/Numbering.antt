-- The ports of the instances of a run by number.
use Rattle.std.specs.Prelude.{◌≡◌, ◌<◌, ◌≤◌, ◌+◌, ◌*◌, ◌∷◌, [], ℕ, List, length, get_or, flat_map}
use Rattle.wf_model.specs.Lists.{IsIn}
use Rattle.wf_model.specs.Grammar.{Grammar, inputs_of, outputs_of}
use Rattle.wf_spec.specs.Sides.{side_place}
use Rattle.wf_flat.specs.declared.graph.Port.{Port}
use Rattle.wf_flat.specs.declared.graph.Link.{Link}
use Rattle.wf_flat.specs.declared.table.Inst.{Inst}

-- the side of an instance that a port is on: the inputs of instance k are side 2 k, its outputs side 2 k + 1
abbrev pub side_of : Port → ℕ
side_of x = 2 * x.instance + side_place x.side

-- how many ports each side of these instances has
abbrev pub widths_of : Grammar → List Inst → List ℕ
widths_of g xs = flat_map (λ (x : Inst). inputs_of g x.module.0 ∷ outputs_of g x.module.0 ∷ []) xs

-- a port is one of those of its side, where the sides have so many
abbrev pub IsWide : List ℕ → Port → Type 0
IsWide widths x = x.port.0 < get_or widths (side_of x) 0

-- each port of the links is one of its side
abbrev pub AreWide : List ℕ → List Link → Type 0
AreWide widths ls = (l : Link) → IsIn l ls → IsWide widths l.from × IsWide widths l.to

-- the number of a port, where the first port of each side has these numbers
abbrev pub number_of : List ℕ → Port → ℕ
number_of begins x = get_or begins (side_of x) 0 + x.port.0

-- a port has a number where this is below that of the next side's first port
abbrev pub IsNumbered : List ℕ → Port → Type 0
IsNumbered begins x = number_of begins x < get_or begins (side_of x + 1) 0

-- each port of the links has a number
abbrev pub AreNumbered : List ℕ → List Link → Type 0
AreNumbered begins ls = (l : Link) → IsIn l ls → IsNumbered begins l.from × IsNumbered begins l.to

-- the sides follow each other
abbrev pub IsRising : List ℕ → Type 0
IsRising begins = (i j : ℕ) → i ≤ j → j < length begins → get_or begins i 0 ≤ get_or begins j 0

-- the first port of each of n sides has the number that follows those of the sides before, which are so wide
pub record AreSums (widths begins : List ℕ) (n : ℕ) : Type 0 where
  pub count : length begins ≡ n + 1
  pub step : (k : ℕ) → k < n → get_or begins (k + 1) 0 ≡ get_or begins k 0 + get_or widths k 0

-- the sides of these instances, one after the other: the number of the first port of each, and last the count of all
abbrev pub AreBegins : Grammar → List Inst → List ℕ → Type 0
AreBegins g xs begins = AreSums (widths_of g xs) begins (length (widths_of g xs))
