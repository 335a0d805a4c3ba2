-- How the files of a shelf were read: from the beginning onward, and how often.
use Rattle.std.specs.Prelude.{◌≡◌, ◌⊎◌, ◌+◌, ℕ, zero, suc, List, [], ◌∷◌, drop, Option, Some, option_map, Result, Ok, Err}

-- one reading of a file: its name, and the place up to which it was read
pub record Reading : Type 0 where
  pub name : List ℕ
  pub place : ℕ

-- The readings, the last first, after a call that read so many bytes of the file of a name from a place on. At the beginning of the file it begins a reading, and elsewhere it goes on with the last
abbrev pub after_read : List ℕ → ℕ → ℕ → List Reading → List Reading
after_read name zero count readings = record { name = name; place = count } ∷ readings
after_read name (suc at) count readings = record { name = name; place = suc at + count } ∷ drop 1 readings

-- so of a shelf that tells its readings
abbrev pub IsReadOn : List ℕ → ℕ → ℕ → Option (List Reading) → Option (List Reading) → Type 0
IsReadOn name at count old new = new ≡ option_map (after_read name at count) old

-- how many bytes a call read: none where it failed
abbrev pub bytes_read : {E : Type 0} → Result ℕ E → ℕ
bytes_read (Ok n) = n
bytes_read (Err e) = 0

-- A call may read the file of a name from a place on: from its beginning, or where the last reading stopped, if that is one of this file
abbrev pub IsOnward : List ℕ → ℕ → Option (List Reading) → Type 0
IsOnward name at told = (readings : List Reading) → told ≡ Some readings → (at ≡ 0) ⊎ ((earlier : List Reading) × (readings ≡ record { name = name; place = at } ∷ earlier))

-- the readings with one more: of the file of a name, up to a place
abbrev pub read_to : List ℕ → ℕ → Option (List Reading) → Option (List Reading)
read_to name place told = option_map (λ readings. record { name = name; place = place } ∷ readings) told

-- the file of a name was read once at most, from its beginning onward
abbrev pub IsReadOnce : List ℕ → Option (List Reading) → Option (List Reading) → Type 0
IsReadOnce name old new = (new ≡ old) ⊎ ((place : ℕ) × (new ≡ read_to name place old))

-- the files of these names were read one after another, each of them so
abbrev pub AreReadInTurn : List (List ℕ) → Option (List Reading) → Option (List Reading) → Type 0
AreReadInTurn [] old new = new ≡ old
AreReadInTurn (name ∷ names) old new = (between : Option (List Reading)) × IsReadOnce name old between × AreReadInTurn names between new
