-- What is found in a list: the first element that passes a test.
use Rattle.std.proofs.Common.{◌≡◌, ℕ, zero, suc, ◌<◌, ◌≤◌, ◌⊎◌, Bool, true, false, cond, List, [], ◌∷◌, Option, Some, None, refl, sym, ap, ◌∙◌, inl, inr, ⊎_elim, arith, true≢false}
use Rattle.std.specs.Prelude.{find}
use Rattle.std.proofs.lemmas.Bool.{cases_eq}
use Rattle.wf_model.specs.Lists.{IsIn, numbers_from}

pub find_gives : {A : Type 0} (p : A → Bool) (xs : List A) (x : A) → find p xs ≡ Some x → IsIn x xs × (p x ≡ true)
find_gives p [] x h = absurd (cc)
find_gives {A} p (y ∷ ys) x h = go (find_gives p ys x) (p y) refl h
  where
    go : (find p ys ≡ Some x → IsIn x ys × (p x ≡ true)) → (t : Bool) → p y ≡ t → cond t (Some y) (find p ys) ≡ Some x → IsIn x (y ∷ ys) × (p x ≡ true)
    go ih true e h = let s : x ≡ y = cc in (inl s, ap p s ∙ e)
    go ih false e h = let r = ih h in (inr r.0, r.1)

pub find_none : {A : Type 0} (p : A → Bool) (xs : List A) → find p xs ≡ None → (x : A) → IsIn x xs → p x ≡ true → ⊥
find_none p [] h x i t = absurd i
find_none {A} p (y ∷ ys) h x i t = go (find_none p ys) (p y) refl h i
  where
    go : (find p ys ≡ None → (x : A) → IsIn x ys → p x ≡ true → ⊥) → (b : Bool) → p y ≡ b → cond b (Some y) (find p ys) ≡ None → IsIn x (y ∷ ys) → ⊥
    go ih true e h i = absurd (cc)
    go ih false e h (inl s) = true≢false (sym t ∙ (ap p s ∙ e))
    go ih false e h (inr i) = ih h x i t

-- of a list of numbers in order, the least that passes is found
pub found_first : (p : ℕ → Bool) (j n k : ℕ) → find p (numbers_from j n) ≡ Some k → (i : ℕ) → j ≤ i → i < k → p i ≡ true → ⊥
found_first p j zero k e i a b t = absurd (cc)
found_first p j (suc n) k e i a b t = go (found_first p (suc j) n k) (p j) refl e
  where
    go : (find p (numbers_from (suc j) n) ≡ Some k → (i : ℕ) → suc j ≤ i → i < k → p i ≡ true → ⊥) → (b : Bool) → p j ≡ b → cond b (Some j) (find p (numbers_from (suc j) n)) ≡ Some k → ⊥
    go ih true q e = let s : j ≡ k = cc in absurd (omega arith)
    go ih false q e = ⊎_elim (λ w. true≢false (sym t ∙ (ap p (sym w) ∙ q))) (λ w. ih e i (let z : j ≡ i → ⊥ = w in omega arith) b t) (cases_eq j i)

-- an option is none, or it is some
pub cases_option : {A : Type 0} (o : Option A) → (o ≡ None) ⊎ ((x : A) × (o ≡ Some x))
cases_option None = inl refl
cases_option (Some x) = inr (x, refl)
