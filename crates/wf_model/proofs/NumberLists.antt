-- The numbers from one on, and lists of numbers.
use Rattle.std.proofs.Common.{◌≡◌, ℕ, zero, suc, ◌+◌, ◌<◌, ◌≤◌, ◌⊎◌, Bool, eqb, true, false, true≢false, List, [], ◌∷◌, ◌++◌, map, length, get_or, refl, sym, ap, ◌∙◌, inl, inr, ⊎_elim, arith}
use Rattle.std.specs.List.{IsDistinct, list_any, AllByRecursion}
use Rattle.std.proofs.lemmas.Bool.{eqb-true, or_cases, cases_eq}
use Rattle.std.proofs.lemmas.Map.Steps.{length-le_from_distinct_below}
use Rattle.wf_model.specs.Lists.{IsIn, AllDiffer, numbers_from}

pub length-numbers : (k n : ℕ) → length (numbers_from k n) ≡ n
length-numbers k zero = refl
length-numbers k (suc n) = ap suc (length-numbers (suc k) n)

pub number_at : (k n i : ℕ) → i < n → get_or (numbers_from k n) i 0 ≡ k + i
number_at k zero i h = absurd (omega arith)
number_at k (suc n) zero h = omega arith
number_at k (suc n) (suc i) h = number_at (suc k) n i (omega arith) ∙ omega arith

pub numbers_from-last : (k n : ℕ) → numbers_from k (suc n) ≡ numbers_from k n ++ (k + n) ∷ []
numbers_from-last k zero = ap (λ j. j ∷ []) (omega arith)
numbers_from-last k (suc n) = ap (λ js. k ∷ js) (numbers_from-last (suc k) n ∙ ap (λ j. numbers_from (suc k) n ++ j ∷ []) (omega arith))

-- none is less than the first
pub from_first : (i k n : ℕ) → IsIn i (numbers_from k n) → k ≤ i
from_first i k zero h = absurd h
from_first i k (suc n) (inl e) = omega arith
from_first i k (suc n) (inr h) = let r : suc k ≤ i = from_first i (suc k) n h in omega arith

pub get_numbered : {A : Type 0} (f : ℕ → A) (k n m : ℕ) (d : A) → m < n → get_or (map f (numbers_from k n)) m d ≡ f (k + m)
get_numbered f k zero m d h = absurd (omega arith)
get_numbered f k (suc n) zero d h = let e : k ≡ k + 0 = omega arith in ap f e
get_numbered f k (suc n) (suc m) d h =
    let l : m < n = omega arith in let e : suc k + m ≡ k + suc m = omega arith in get_numbered f (suc k) n m d l ∙ ap f e

-- a number is in a list, or it is not
pub in_or_not : (x : ℕ) (ys : List ℕ) → IsIn x ys ⊎ (IsIn x ys → ⊥)
in_or_not x [] = inr (λ h. h)
in_or_not x (y ∷ ys) = ⊎_elim (λ e. inl (inl e)) (λ n. ⊎_elim (λ h. inl (inr h)) (λ m. inr (λ z. ⊎_elim n m z)) (in_or_not x ys)) (cases_eq x y)

any_gives : (x : ℕ) (ys : List ℕ) → list_any (eqb x) ys ≡ true → IsIn x ys
any_gives x [] h = absurd (true≢false (sym h))
any_gives x (y ∷ ys) h = ⊎_elim (λ e. inl (eqb-true x y e)) (λ r. inr (any_gives x ys r)) (or_cases (eqb x y) (list_any (eqb x) ys) h)

unequal_all : (x : ℕ) (ys : List ℕ) → (IsIn x ys → ⊥) → AllByRecursion (λ y. eqb x y ≡ false) ys
unequal_all x [] h = tt
unequal_all x (y ∷ ys) h = (go (eqb x y) refl, unequal_all x ys (λ i. h (inr i)))
  where
    go : (b : Bool) → eqb x y ≡ b → eqb x y ≡ false
    go true e = absurd (h (inl (eqb-true x y e)))
    go false e = e

distinct_from : (xs : List ℕ) → AllDiffer xs → IsDistinct eqb xs
unfolding IsDistinct
distinct_from [] d = tt
distinct_from (x ∷ xs) d = (unequal_all x xs d.0, distinct_from xs d.1)

-- at most n different numbers are below n
pub differ_few : (n : ℕ) (xs : List ℕ) → AllDiffer xs → ((x : ℕ) → IsIn x xs → x < n) → length xs ≤ n
differ_few n xs d below = length-le_from_distinct_below xs n (distinct_from xs d) (λ q h. below q (any_gives q xs h))
