-- Rows of bits for sets of pairs, and how they are made.
use Rattle.std.specs.Prelude.{◌≡◌, ℕ, ◌<◌, Bool, false, not, cond, ◌&&◌, ◌==◌, List, [], map, length, get_or, Vec}
use Rattle.std.specs.declared.alloc.Global.{Global}
use Rattle.wf_model.specs.Lists.{IsIn, some}
use Rattle.wf_model.specs.Grammar.{Module, Given}
use Rattle.wf_spec.specs.declared.given.Pair.{Pair}
use Rattle.wf_spec.specs.Naming.{module_in}
use Rattle.wf_spec.specs.Rows.{bit_in, AreAlike, has_pair}

-- a pair, as it is held
abbrev pub pair_of : Pair → ℕ × ℕ
pair_of e = (e.input.0, e.output.0)

-- a table of rows, as it is held
abbrev pub table_of : List (Vec ℕ Global) → List (List ℕ)
table_of = map (λ v. v.items)

-- the rows of a module in a table
abbrev pub rows_in : List (List ℕ) → ℕ → List ℕ
rows_in table m = get_or table m []

-- parts give a pair to a module
abbrev pub gives : List Given → ℕ → ℕ → ℕ → Bool
gives given m i o = some (λ (d : Given). (d.module_no == m) && has_pair d.pairs i o) given

-- a part names a module
abbrev pub names_it : List Given → ℕ → Bool
names_it given m = some (λ (d : Given). d.module_no == m) given

-- the bits of what parts give are set, and the others are as before
pub record AreAllAdded (given : List Given) (before after : List (List ℕ)) : Type 0 where
  pub as_many : (m : ℕ) → length (rows_in after m) ≡ length (rows_in before m)
  pub bits : (m i o : ℕ) → bit_in (rows_in after m) i o ≡ cond {A = ℕ} (gives given m i o) 1 (bit_in (rows_in before m) i o)

-- what parts give has a place in a table
pub record HavePlaces (given : List Given) (table : List (List ℕ)) : Type 0 where
  pub module_no : (d : Given) → IsIn d given → d.module_no < length table
  pub inputs : (d : Given) (e : ℕ × ℕ) → IsIn d given → IsIn e d.pairs → e.0 < length (rows_in table d.module_no)
  pub outputs : (d : Given) (e : ℕ × ℕ) → IsIn d given → IsIn e d.pairs → e.1 < 64

-- a flag for each of so many modules, that a part names it
pub record AreNamed (given : List Given) (modules : ℕ) (flags : List Bool) : Type 0 where
  pub one_each : length flags ≡ modules
  pub each : (m : ℕ) → m < modules → get_or flags m false ≡ names_it given m

-- the rows of the first n modules, before pairs are added: none where a part names the module, and else all
pub record AreFirst (modules : List Module) (flags : List Bool) (n : ℕ) (table : List (List ℕ)) : Type 0 where
  pub one_each : length table ≡ n
  pub each : (m : ℕ) → m < n → AreAlike (module_in modules m) (not (get_or flags m false)) (rows_in table m)

-- the pairs of parts are ports of modules
pub record AreGivenIn (modules : List Module) (given : List Given) : Type 0 where
  pub module_no : (d : Given) → IsIn d given → d.module_no < length modules
  pub pairs : (d : Given) (e : ℕ × ℕ) → IsIn d given → IsIn e d.pairs → (e.0 < length (module_in modules d.module_no).inputs) × (e.1 < length (module_in modules d.module_no).outputs)
