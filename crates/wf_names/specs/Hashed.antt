-- Names with their hashes.
use Rattle.std.specs.Prelude.{◌≡◌, ◌%◌, ◌^◌, ℕ, List, [], ◌∷◌, fold}
use Rattle.std.specs.Hash.DefaultHasher as sip
use Rattle.wf_names.specs.declared.keyed.KeyedHash.{KeyedHash}
use Rattle.wf_names.specs.Keyed.{first_hasher}

-- 32 bits of the hash of a name with the key of a table
abbrev pub name_hash : KeyedHash → List ℕ → ℕ
name_hash keyed name = sip.finish (fold sip.write (first_hasher keyed) (name ∷ [])) % 2 ^ 32

-- each of these things has beside it the hash of its name
abbrev pub AreHashed : {A : Type 0} → KeyedHash → (A → ℕ) → (A → List ℕ) → List A → Type 0
AreHashed keyed hash name [] = Unit {0}
AreHashed keyed hash name (x ∷ xs) = (hash x ≡ name_hash keyed (name x)) × AreHashed keyed hash name xs
