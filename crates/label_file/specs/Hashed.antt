-- Names with their hashes, and keys that are found by them.
use Rattle.std.specs.Prelude.{◌≡◌, ◌+◌, ◌%◌, ◌^◌, ◌<◌, ℕ, List, [], ◌∷◌, fold}
use Rattle.std.specs.Hash.DefaultHasher as sip
use Rattle.wf_model.specs.Lists.{IsIn}
use Rattle.wf_names.specs.declared.keyed.KeyedHash.{KeyedHash}
use Rattle.wf_names.specs.Keyed.{first_hasher}
use Rattle.label_file.specs.declared.key.HashedName.{HashedName}
use Rattle.label_model.specs.Files.{Entry, IsFront}
use Rattle.label_file.specs.Keys.{EntryAt, numbers, held_at, IsPlaced}

-- 31 bits of the hash of a name with the key of a table
abbrev pub name_hash : KeyedHash → List ℕ → ℕ
name_hash keyed name = sip.finish (fold sip.write (first_hasher keyed) (name ∷ [])) % 2 ^ 31

-- the hash of a name is that with the key
abbrev pub IsHashed : KeyedHash → HashedName → Type 0
IsHashed keyed n = n.hash ≡ name_hash keyed n.bytes.now

-- the number so many turns behind a hash, of which there are 2^31 in a ring
abbrev pub turned : ℕ → ℕ → ℕ
turned hash turn = (hash + turn) % 2 ^ 31

-- A key is that of an entry of the bytes. Its number lies some turns behind the hash of the name, and each number before it is that of a key
pub record IsKeyIn (keyed : KeyedHash) (bytes : List ℕ) (ks : List EntryAt) (k : EntryAt) : Type 0 where
  pub entry : Entry
  pub placed : IsPlaced bytes k.place k.padding entry
  pub turn : ℕ
  pub few : turn < 2 ^ 31
  pub number : k.number ≡ turned (name_hash keyed entry.name) turn
  pub passed : (t : ℕ) → t < turn → IsIn (turned (name_hash keyed entry.name) t) (numbers ks)

-- so are all keys
abbrev pub AreKeysIn : KeyedHash → List ℕ → List EntryAt → Type 0
AreKeysIn keyed bytes ks = (k : EntryAt) → IsIn k ks → IsKeyIn keyed bytes ks k

-- no key of this number has this name
abbrev pub HasNone : List ℕ → List EntryAt → List ℕ → ℕ → Type 0
HasNone bytes ks name number = (k : EntryAt) → IsIn k ks → k.number ≡ number → (held_at bytes k).name ≡ name → ⊥

-- names with their hashes, of the entries that stand at the front of bytes, one behind the other, as far as there are such
abbrev pub AreNamesAhead : KeyedHash → List ℕ → List HashedName → Type 0
AreNamesAhead keyed bytes [] = Unit {0}
AreNamesAhead keyed bytes (n ∷ ns) = (e : Entry) (rest : List ℕ) → IsFront e bytes rest → (n.bytes.now ≡ e.name) × IsHashed keyed n × AreNamesAhead keyed rest ns
