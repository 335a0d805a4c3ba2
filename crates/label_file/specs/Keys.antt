-- Entries as keys of a table, and what of the file is held by them.
use Rattle.std.specs.Prelude.{ℕ, ◌+◌, ◌-◌, ◌*◌, ◌≤◌, List, length, take, drop, map, get_or}
use Rattle.bit_pack.specs.Written.{first_bits, IsFilled}
use Rattle.label_model.specs.Files.{Entry, IsFront}
use Rattle.label_file.specs.Stored.{EntryHeld}

-- an entry as a key: the number by which it is found, the place in the file where it begins, and how many zero bits fill the last byte of its label
pub record EntryAt : Type 0 where
  pub number : ℕ
  pub place : ℕ
  pub padding : ℕ

-- the numbers of keys
abbrev pub numbers : List EntryAt → List ℕ
numbers ks = map (λ (k : EntryAt). k.number) ks

-- the bytes that stand behind their number, which is told in two bytes
abbrev pub label_read : List ℕ → List ℕ
label_read bytes = take (get_or bytes 0 0 * 256 + get_or bytes 1 0) (drop 2 bytes)

-- the entry that is read at the front of bytes
abbrev pub front_read : List ℕ → Entry
front_read bytes = record { name = take (get_or bytes 0 0) (drop 1 bytes); label = label_read (drop (get_or bytes 0 0) (drop 1 bytes)) }

-- what is held of an entry whose label has so many zero bits at its end: its name, and the bits before these
abbrev pub held_of : Entry → ℕ → EntryHeld
held_of e padding = record { name = e.name; bits = first_bits e.label (8 * length e.label - padding) }

-- what is held by a key of the entries of a file
abbrev pub held_at : List ℕ → EntryAt → EntryHeld
held_at bytes k = held_of (front_read (drop k.place bytes)) k.padding

-- and by keys, in order
abbrev pub held : List ℕ → List EntryAt → List EntryHeld
held bytes ks = map (held_at bytes) ks

-- an entry stands at this place of the bytes, and its label fills its bytes up to so many zero bits
pub record IsPlaced (bytes : List ℕ) (place padding : ℕ) (e : Entry) : Type 0 where
  pub rest : List ℕ
  pub front : IsFront e (drop place bytes) rest
  pub padded : padding ≤ 8 * length e.label
  pub filled : IsFilled e.label (8 * length e.label - padding)
