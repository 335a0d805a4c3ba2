-- Look-ups by a hash and a name, where each key has the hash of its name: the names decide.
use Rattle.std.proofs.Common.{◌≡◌, ℕ, zero, suc, Bool, true, false, List, [], ◌∷◌, ◌++◌, ◌||◌, ◌&&◌, ◌==◌, bytes_eq, take, length, get_or, ◌<◌, refl, sym, ap, ◌∙◌, arith}
use Rattle.std.specs.Prelude.{position}
use Rattle.std.specs.List.{list_any, position_or_len}
use Rattle.std.proofs.lemmas.Bool.{eq-eqb, and_right}
use Rattle.wf_model.proofs.Lists.{same_bytes}
use Rattle.wf_names.specs.declared.keyed.KeyedHash.{KeyedHash}
use Rattle.wf_names.specs.Hashed.{name_hash, AreHashed}

module _ {A : Type 0} (keyed : KeyedHash) (hash_at : A → ℕ) (name_at : A → List ℕ) where
  -- one more goes behind those that have the hashes of their names
  pub hashed_behind : (xs : List A) (x : A) → AreHashed keyed hash_at name_at xs → hash_at x ≡ name_hash keyed (name_at x) → AreHashed keyed hash_at name_at (xs ++ x ∷ [])
  hashed_behind [] x h e = (e, tt)
  hashed_behind (y ∷ ys) x h e = (h.0, hashed_behind ys x h.1 e)

  -- so have the first of them
  pub hashed_first : (n : ℕ) (xs : List A) → AreHashed keyed hash_at name_at xs → AreHashed keyed hash_at name_at (take n xs)
  hashed_first zero xs h = tt
  hashed_first (suc n) [] h = tt
  hashed_first (suc n) (x ∷ xs) h = (h.0, hashed_first n xs h.1)

  -- and each of them
  pub hashed_at : (xs : List A) (i : ℕ) (d : A) → i < length xs → AreHashed keyed hash_at name_at xs → hash_at (get_or xs i d) ≡ name_hash keyed (name_at (get_or xs i d))
  hashed_at [] i d l h = absurd (omega (arith, l))
  hashed_at (x ∷ xs) zero d l h = h.0
  hashed_at (x ∷ xs) (suc i) d l h = hashed_at xs i d (omega (arith, l)) h.1

  module _ (hash : ℕ) (name : List ℕ) (hashed : hash ≡ name_hash keyed name) where
    -- whether a key has the name
    abbrev named : A → Bool
    named x = bytes_eq name (name_at x)

    -- whether it has the hash as well
    abbrev pub has : A → Bool
    has x = (hash == hash_at x) && bytes_eq name (name_at x)

    -- where a key has the hash of its name, the names decide
    pub names_decide : (x : A) → hash_at x ≡ name_hash keyed (name_at x) → has x ≡ named x
    names_decide x e = by (named x) refl
      where
        by : (b : Bool) → named x ≡ b → has x ≡ named x
        by true t =
            let same : hash ≡ hash_at x = hashed ∙ (ap (name_hash keyed) (same_bytes name (name_at x) t) ∙ sym e) in
            ap (λ b. b && named x) (eq-eqb hash (hash_at x) same)
        by false f = and_right (hash == hash_at x) (named x) f ∙ sym f

    pub any_named : (xs : List A) → AreHashed keyed hash_at name_at xs → list_any has xs ≡ list_any named xs
    any_named [] h = refl
    any_named (x ∷ xs) h = ap (λ b. b || list_any has xs) (names_decide x h.0) ∙ ap (λ b. named x || b) (any_named xs h.1)

    place_named : (xs : List A) → AreHashed keyed hash_at name_at xs → position_or_len has xs ≡ position_or_len named xs
    place_named [] h = refl
    place_named (x ∷ xs) h = grind (arith, names_decide x h.0, place_named xs h.1)

    pub position_named : (xs : List A) → AreHashed keyed hash_at name_at xs → position has xs ≡ position named xs
    position_named xs h = grind (arith, place_named xs h)
