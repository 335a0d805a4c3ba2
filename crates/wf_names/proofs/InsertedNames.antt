-- A key that is inserted where none is equal to it, by the bytes that are seen of keys.
use Rattle.std.proofs.Common.{◌≡◌, ◌∙◌, ℕ, Bool, true, false, not, ◌&&◌, ◌==◌, List, [], ◌∷◌, ◌++◌, map, refl, sym, ap, subst}
use Rattle.std.specs.Prelude.{bytes_eq, if◌then◌else◌}
use Rattle.std.specs.Bool.{OnTrue, OnFalse}
use Rattle.std.specs.List.{list_any}
use Rattle.wf_model.specs.Lists.{some}
use Rattle.wf_names.specs.declared.keyed.KeyedHash.{KeyedHash}
use Rattle.wf_names.specs.Hashed.{name_hash, AreHashed}
use Rattle.wf_names.proofs.Found.{some_through, pushed}
use Rattle.wf_names.proofs.HashedNames.{any_named, hashed_behind}

not_not : (b : Bool) → b ≡ not (not b)
not_not true = refl
not_not false = refl

module _ {A : Type 0} (keyed : KeyedHash) (hash_at : A → ℕ) (f : A → List ℕ) (k : A) (q : List ℕ) (xs ys : List A)
    (same : f k ≡ q) (hashed : hash_at k ≡ name_hash keyed q) (all : AreHashed keyed hash_at f xs) (is_new : Bool)
    (is_told : is_new ≡ not (list_any (λ x. (hash_at k == hash_at x) && bytes_eq (f k) (f x)) xs))
    (is_put : ys ≡ (if list_any (λ x. (hash_at k == hash_at x) && bytes_eq (f k) (f x)) xs then xs else xs ++ k ∷ [])) where
  -- the hash of the key
  own : hash_at k ≡ name_hash keyed (f k)
  own = hashed ∙ ap (name_hash keyed) (sym same)

  -- the names decide whether an equal key is there
  by_name : list_any (λ x. (hash_at k == hash_at x) && bytes_eq (f k) (f x)) xs ≡ list_any (λ x. bytes_eq (f k) (f x)) xs
  by_name = any_named keyed hash_at f (hash_at k) (f k) own xs all

  told : is_new ≡ not (list_any (λ x. bytes_eq (f k) (f x)) xs)
  told = is_told ∙ ap not by_name

  put : ys ≡ (if list_any (λ x. bytes_eq (f k) (f x)) xs then xs else xs ++ k ∷ [])
  put = is_put ∙ ap (λ b. if b then xs else xs ++ k ∷ []) by_name

  there : some (bytes_eq q) (map f xs) ≡ not is_new
  there = some_through (bytes_eq q) f xs ∙ (ap (λ b. list_any (λ x. bytes_eq b (f x)) xs) (sym same) ∙ (not_not _ ∙ ap not (sym told)))

  pub is_absent : is_new ≡ not (some (bytes_eq q) (map f xs))
  is_absent = not_not is_new ∙ ap not (sym there)

  last_if : is_new ≡ true → map f ys ≡ map f xs ++ q ∷ []
  last_if e = pushed f k q xs ys same (there ∙ ap not e) put

  stays_if : is_new ≡ false → ys ≡ xs
  stays_if e = put ∙ ap (λ b. if b then xs else xs ++ k ∷ []) (not_not _ ∙ ap not (sym told ∙ e))

  pub goes_last : OnTrue is_new (map f ys ≡ map f xs ++ q ∷ [])
  goes_last = by is_new refl
    where
      by : (b : Bool) → is_new ≡ b → OnTrue b (map f ys ≡ map f xs ++ q ∷ [])
      by true e = last_if e
      by false e = tt

  pub stays : OnFalse is_new (ys ≡ xs)
  stays = by is_new refl
    where
      by : (b : Bool) → is_new ≡ b → OnFalse b (ys ≡ xs)
      by true e = tt
      by false e = stays_if e

  -- the keys keep the hashes of their names
  pub stay_hashed : AreHashed keyed hash_at f ys
  stay_hashed = subst (AreHashed keyed hash_at f) (sym put) (by (list_any (λ x. bytes_eq (f k) (f x)) xs))
    where
      by : (b : Bool) → AreHashed keyed hash_at f (if b then xs else xs ++ k ∷ [])
      by true = all
      by false = hashed_behind keyed hash_at f xs k all own
