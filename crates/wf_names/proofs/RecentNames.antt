-- A name is at one place alone, so a place where it is found is the first.
use Rattle.std.proofs.Common.{◌≡◌, ℕ, zero, suc, ◌+◌, ◌<◌, Bool, true, false, not, ◌&&◌, ◌==◌, cond, List, [], ◌∷◌, Some, bytes_eq, length, get_or, refl, sym, ap, ◌∙◌, arith, true≢false}
use Rattle.std.specs.Prelude.{position}
use Rattle.std.specs.List.{position_or_len, AllByRecursion, IsDistinct}
use Rattle.std.proofs.lemmas.Bool.Decides.{nat_tests}
use Rattle.wf_model.proofs.Lists.{same_bytes}
use Rattle.wf_names.specs.declared.keyed.KeyedHash.{KeyedHash}
use Rattle.wf_names.specs.Hashed.{AreHashed}
use Rattle.wf_names.proofs.HashedNames.{hashed_at, names_decide}

all_at : {A : Type 0} (P : A → Type 0) (xs : List A) (i : ℕ) (d : A) → i < length xs → AllByRecursion P xs → P (get_or xs i d)
all_at P [] i d l h = absurd (omega (arith, l))
all_at P (x ∷ xs) zero d l h = h.0
all_at P (x ∷ xs) (suc i) d l h = all_at P xs i d (omega (arith, l)) h.1

module _ {A : Type 0} (keyed : KeyedHash) (hash_at : A → ℕ) (name_at : A → List ℕ) (q : List ℕ) where
  -- whether a key has the name
  abbrev named : A → Bool
  named x = bytes_eq q (name_at x)

  -- whether two keys are equal
  abbrev same : A → A → Bool
  same x y = (hash_at x == hash_at y) && bytes_eq (name_at x) (name_at y)

  place_alone : (xs : List A) (i : ℕ) (d : A) → i < length xs → AreHashed keyed hash_at name_at xs → IsDistinct same xs → named (get_or xs i d) ≡ true → position_or_len named xs ≡ i
  unfolding IsDistinct
  place_alone [] i d l h u t = absurd (omega (arith, l))
  place_alone (x ∷ xs) zero d l h u t = ap (λ b. cond (not b) (1 + position_or_len named xs) 0) t
  place_alone (x ∷ xs) (suc i) d l h u t =
      let low : i < length xs = omega (arith, l) in
      let y = get_or xs i d in
      let apart : bytes_eq (name_at x) (name_at y) ≡ false = sym (names_decide keyed hash_at name_at (hash_at x) (name_at x) h.0 y (hashed_at keyed hash_at name_at xs i d low h.1)) ∙ all_at (λ z. same x z ≡ false) xs i d low u.0 in
      by (named x) refl y t apart (place_alone xs i d low h.1 u.1 t)
    where
      by : (b : Bool) → named x ≡ b → (y : A) → named y ≡ true → bytes_eq (name_at x) (name_at y) ≡ false → position_or_len named xs ≡ i → position_or_len named (x ∷ xs) ≡ suc i
      by true e y t apart more = absurd (true≢false (sym t ∙ (ap (λ z. bytes_eq z (name_at y)) (same_bytes q (name_at x) e) ∙ apart)))
      by false f y t apart more = let one : 1 + i ≡ suc i = omega arith in ap (λ b. cond (not b) (1 + position_or_len named xs) 0) f ∙ (ap (λ n. 1 + n) more ∙ one)

  -- where a key has the name, it is the first that has it
  pub position_alone : (xs : List A) (i : ℕ) (d : A) → i < length xs → AreHashed keyed hash_at name_at xs → IsDistinct same xs → named (get_or xs i d) ≡ true → position named xs ≡ Some i
  position_alone xs i d l h u t = let e = place_alone xs i d l h u t in grind (arith, nat_tests, e, l)
