-- What is so or is not, and the first of some things that is so.
use Rattle.std.proofs.Common.{◌≡◌, ◌⊎◌, ℕ, zero, suc, ◌<◌, ◌≤◌, Bool, true, false, IsTrue, List, Option, Some, None, [], ◌∷◌, length, bytes_eq, refl, sym, ap, ◌∙◌, subst, inl, inr, ⊎_elim, arith, true≢false}
use Rattle.std.proofs.lemmas.Bool.{cases_lt, cases_eq}
use Rattle.std.proofs.lemmas.Option.{same_Some}
use Rattle.wf_model.specs.Lists.{IsIn, AllDiffer, Walk, here, onward}
use Rattle.wf_model.proofs.Lists.{same_bytes, bytes_same}
use Rattle.wf_model.proofs.Walks.{walk-append, walk_one, walk_through}

-- something is so, or it is not
abbrev pub Either : Type 0 → Type 0
Either P = P ⊎ (P → ⊥)

-- a test of what is so or not
abbrev pub is_so : {P : Type 0} → Either P → Bool
is_so (inl p) = true
is_so (inr n) = false

pub so_gives : {P : Type 0} (e : Either P) → IsTrue (is_so e) → P
so_gives (inl p) t = p
so_gives (inr n) t = absurd (true≢false (sym t))

pub so_from : {P : Type 0} (e : Either P) → P → IsTrue (is_so e)
so_from (inl p) q = refl
so_from (inr n) q = absurd (n q)

pub either_same : {P Q : Type 0} → (P → Q) → (Q → P) → Either P → Either Q
either_same to from (inl p) = inl (to p)
either_same to from (inr n) = inr (λ q. n (from q))

pub either_not : {P : Type 0} → Either P → Either (P → ⊥)
either_not (inl p) = inr (λ n. n p)
either_not (inr n) = inl n

pub either_both : {P Q : Type 0} → Either P → Either Q → Either (P × Q)
either_both (inl p) (inl q) = inl (p, q)
either_both (inl p) (inr n) = inr (λ h. n h.1)
either_both (inr n) q = inr (λ h. n h.0)

-- the same where the one is asked only if the other is so
pub either_then : {P Q : Type 0} → Either P → (P → Either Q) → Either (P × Q)
either_then (inl p) q = either_both (inl p) (q p)
either_then (inr n) q = inr (λ h. n h.0)

pub either_one : {P Q : Type 0} → Either P → Either Q → Either (P ⊎ Q)
either_one (inl p) q = inl (inl p)
either_one (inr n) (inl q) = inl (inr q)
either_one (inr n) (inr m) = inr (λ h. ⊎_elim n m h)

pub either_if : {P Q : Type 0} → Either P → Either Q → Either (P → Q)
either_if p (inl q) = inl (λ h. q)
either_if (inl p) (inr n) = inr (λ f. n (f p))
either_if (inr m) (inr n) = inl (λ p. absurd (m p))

pub test_either : (b : Bool) → Either (b ≡ true)
test_either true = inl refl
test_either false = inr (λ e. true≢false (sym e))

pub number_either : (a b : ℕ) → Either (a ≡ b)
number_either a b = cases_eq a b

pub below_either : (a b : ℕ) → Either (a < b)
below_either a b = ⊎_elim (λ l. inl l) (λ l. inr (λ h. absurd (omega arith))) (cases_lt a b)

pub within_either : (a b : ℕ) → Either (a ≤ b)
within_either a b = ⊎_elim (λ l. inr (λ h. absurd (omega arith))) (λ l. inl l) (cases_lt b a)

pub option_either : {A : Type 0} → ((x y : A) → Either (x ≡ y)) → (a b : Option A) → Either (a ≡ b)
option_either same None None = inl refl
option_either same None (Some y) = inr (λ e. absurd (cc))
option_either same (Some x) None = inr (λ e. absurd (cc))
option_either same (Some x) (Some y) = either_same (λ e. ap Some e) (λ e. same_Some x y e) (same x y)

pub bytes_either : (a b : List ℕ) → Either (a ≡ b)
bytes_either a b = either_same (same_bytes a b) (bytes_same a b) (test_either (bytes_eq a b))

-- the number k is the least of which it is so
pub record IsFirst (P : ℕ → Type 0) (k : ℕ) : Type 0 where
  pub so : P k
  pub before : (j : ℕ) → j < k → P j → ⊥

module _ (P : ℕ → Type 0) where
  -- of the numbers below n one is the first of which it is so, or it is so of none
  pub first_below : (n : ℕ) → ((k : ℕ) → k < n → Either (P k)) → ((k : ℕ) × (k < n) × IsFirst P k) ⊎ ((k : ℕ) → k < n → P k → ⊥)
  first_below zero either = inr (λ k h. absurd (omega arith))
  first_below (suc n) either = go (first_below n (λ k h. either k (omega arith))) (either n (omega arith))
    where
      go : ((k : ℕ) × (k < n) × IsFirst P k) ⊎ ((k : ℕ) → k < n → P k → ⊥) → Either (P n) → ((k : ℕ) × (k < suc n) × IsFirst P k) ⊎ ((k : ℕ) → k < suc n → P k → ⊥)
      go (inl r) e = let l = r.1 in inl (r.0, omega arith, r.2)
      go (inr none) (inl p) = inl (n, omega arith, record { so = p; before = none })
      go (inr none) (inr not) = inr (λ k h p. ⊎_elim (λ l. none k l p) (λ l. let same : k ≡ n = omega arith in not (subst P same p)) (cases_lt k n))

  -- where it is so of some number, one is the first of which it is so
  pub first_of_all : ((k : ℕ) → Either (P k)) → (n : ℕ) → P n → (k : ℕ) × (k ≤ n) × IsFirst P k
  first_of_all either n p = ⊎_elim (λ r. let l = r.1 in (r.0, omega arith, r.2)) (λ none. (n, omega arith, record { so = p; before = none })) (first_below n (λ k h. either k))

  -- it is so of each number below n, or one is the first of which it is not
  pub all_or_first : (n : ℕ) → ((k : ℕ) → k < n → Either (P k)) → ((k : ℕ) → k < n → P k) ⊎ ((k : ℕ) × (k < n) × (P k → ⊥) × ((j : ℕ) → j < k → P j))
  all_or_first zero either = inl (λ k h. absurd (omega arith))
  all_or_first (suc n) either = go (all_or_first n (λ k h. either k (omega arith))) (either n (omega arith))
    where
      go : ((k : ℕ) → k < n → P k) ⊎ ((k : ℕ) × (k < n) × (P k → ⊥) × ((j : ℕ) → j < k → P j)) → Either (P n) → ((k : ℕ) → k < suc n → P k) ⊎ ((k : ℕ) × (k < suc n) × (P k → ⊥) × ((j : ℕ) → j < k → P j))
      go (inr r) e = let l = r.1 in inr (r.0, omega arith, r.2, r.3)
      go (inl all) (inr not) = inr (n, omega arith, not, all)
      go (inl all) (inl p) = inl (λ k h. ⊎_elim (λ l. all k l) (λ l. let same : n ≡ k = omega arith in subst P same p) (cases_lt k n))

  pub some_below : (n : ℕ) → ((k : ℕ) → k < n → Either (P k)) → Either ((k : ℕ) × (k < n) × P k)
  some_below n either = ⊎_elim (λ r. inl (r.0, r.1, r.2.so)) (λ none. inr (λ h. none h.0 h.1 h.2)) (first_below n either)

  pub all_below : (n : ℕ) → ((k : ℕ) → k < n → Either (P k)) → Either ((k : ℕ) → k < n → P k)
  all_below n either = ⊎_elim (λ all. inl all) (λ r. inr (λ all. r.2 (all r.0 r.1))) (all_or_first n either)

module _ {A : Type 0} (P : A → Type 0) where
  -- it is so of an element of a list, or of none
  pub some_in : (xs : List A) → ((x : A) → IsIn x xs → Either (P x)) → Either ((x : A) × IsIn x xs × P x)
  some_in [] either = inr (λ h. h.1)
  some_in (x ∷ xs) either = go (either x (inl refl)) (some_in xs (λ y i. either y (inr i)))
    where
      go : Either (P x) → Either ((y : A) × IsIn y xs × P y) → Either ((y : A) × IsIn y (x ∷ xs) × P y)
      go (inl p) r = inl (x, inl refl, p)
      go (inr n) (inl r) = inl (r.0, inr r.1, r.2)
      go (inr n) (inr m) = inr (λ h. ⊎_elim (λ e. n (subst P e h.2)) (λ i. m (h.0, i, h.2)) h.1)

  -- it is so of each element, or not
  pub all_in : (xs : List A) → ((x : A) → IsIn x xs → Either (P x)) → Either ((x : A) → IsIn x xs → P x)
  all_in [] either = inl (λ x i. absurd i)
  all_in (x ∷ xs) either = go (either x (inl refl)) (all_in xs (λ y i. either y (inr i)))
    where
      go : Either (P x) → Either ((y : A) → IsIn y xs → P y) → Either ((y : A) → IsIn y (x ∷ xs) → P y)
      go (inr n) r = inr (λ all. n (all x (inl refl)))
      go (inl p) (inr n) = inr (λ all. n (λ y i. all y (inr i)))
      go (inl p) (inl all) = inl (λ y i. ⊎_elim (λ e. subst P (sym e) p) (λ j. all y j) i)

module _ {A : Type 0} (same : (x y : A) → Either (x ≡ y)) where
  pub in_either : (x : A) (xs : List A) → Either (IsIn x xs)
  in_either x [] = inr (λ h. h)
  in_either x (y ∷ ys) = either_one (same x y) (in_either x ys)

  pub differ_either : (xs : List A) → Either (AllDiffer xs)
  differ_either [] = inl tt
  differ_either (x ∷ xs) = either_both (either_not (in_either x xs)) (differ_either xs)

-- an edge of the list leads from one point to another
abbrev pub Along : {A : Type 0} → List (A × A) → A → A → Type 0
Along es a b = IsIn (a, b) es

-- a walk that may take one more edge does not take it, or goes to its begin and on from its end
abbrev Through : {A : Type 0} → A × A → List (A × A) → A → A → Type 0
Through e es x y = Walk (Along es) x y ⊎ (Walk (Along es) x e.0 × Walk (Along es) e.1 y)

through : {A : Type 0} (e : A × A) (es : List (A × A)) {x y : A} → Walk (Along (e ∷ es)) x y → Through e es x y
through e es here = inl here
through {A} e es {y = y} (onward {x = x} {y = z} s w) = go (through e es w) s
  where
    go : Through e es z y → Along (e ∷ es) x z → Through e es x y
    go (inl p) (inl i) = inr (subst (λ (k : A × A). Walk (Along es) x k.0) i here, subst (λ (k : A × A). Walk (Along es) k.1 y) i p)
    go (inr q) (inl i) = inr (subst (λ (k : A × A). Walk (Along es) x k.0) i here, q.1)
    go (inl p) (inr h) = inl (onward h p)
    go (inr q) (inr h) = inr (onward h q.0, q.1)

with_more : {A : Type 0} (e : A × A) (es : List (A × A)) {x y : A} → Walk (Along es) x y → Walk (Along (e ∷ es)) x y
with_more e es here = here
with_more e es (onward s w) = onward (inr s) (with_more e es w)

from_through : {A : Type 0} (e : A × A) (es : List (A × A)) {x y : A} → Through e es x y → Walk (Along (e ∷ es)) x y
from_through e es (inl p) = with_more e es p
from_through e es (inr q) = walk-append (with_more e es q.0) (onward (inl refl) (with_more e es q.1))

-- along no edges a walk leads from a point to itself alone
alone : {A : Type 0} {x y : A} → Walk (Along []) x y → x ≡ y
alone here = refl
alone (onward s w) = absurd s

module _ {A : Type 0} (same : (x y : A) → Either (x ≡ y)) where
  -- along edges that are listed a walk leads from one point to another, or none does
  pub along_either : (es : List (A × A)) (x y : A) → Either (Walk (Along es) x y)
  along_either [] x y = either_same (λ e. subst (Walk (Along []) x) e here) alone (same x y)
  along_either (e ∷ es) x y =
      either_same (from_through e es) (through e es) (either_one (along_either es x y) (either_both (along_either es x e.0) (along_either es e.1 y)))

  -- so it is along a relation that holds of the edges of a list alone
  pub walk_either : (R : A → A → Type 0) (es : List (A × A)) → ((a b : A) → IsIn (a, b) es → R a b) → ((a b : A) → R a b → IsIn (a, b) es) → (x y : A) → Either (Walk R x y)
  walk_either R es gives listed x y =
      either_same (walk_through (λ z. z) (λ a b i. walk_one (gives a b i))) (walk_through (λ z. z) (λ a b r. walk_one (listed a b r))) (along_either es x y)
