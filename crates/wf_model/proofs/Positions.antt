-- Elements of lists and the places where they stand.
use Rattle.std.proofs.Common.{◌≡◌, ℕ, zero, suc, ◌+◌, ◌<◌, ◌⊎◌, List, [], ◌∷◌, ◌++◌, length, get_or, below_more, refl, sym, ap, subst, inl, inr, ⊎_elim, arith}
use Rattle.std.proofs.lemmas.List.{get_or_append_left, get_or_push}
use Rattle.wf_model.specs.Lists.{IsIn, IsAt}
use Rattle.wf_model.proofs.Lists.{at_in, is_at}

-- there is an element at each place
pub at_there : {A : Type 0} (k : ℕ) (xs : List A) → k < length xs → (x : A) × IsAt x k xs
at_there k [] h = absurd (omega arith)
at_there zero (x ∷ xs) h = (x, refl)
at_there (suc k) (x ∷ xs) h = let r : k < length xs = omega arith in at_there k xs r

-- what is read at a place is an element
pub in_there : {A : Type 0} (xs : List A) (k : ℕ) (y : A) → k < length xs → y ≡ get_or xs k y → IsIn y xs
in_there xs k y h e = subst (λ z. IsIn z xs) (sym e) (at_in (get_or xs k y) k xs (is_at k xs y h))

-- a list with an element is not empty
pub has_length : {A : Type 0} (x : A) (xs : List A) → IsIn x xs → 0 < length xs
has_length x [] h = absurd h
has_length x (y ∷ xs) h = omega arith

-- what stands before an element, and what behind it
pub parted : {A : Type 0} (x : A) (xs : List A) → IsIn x xs → (l : List A) × (r : List A) × (xs ≡ l ++ x ∷ r)
parted x [] h = absurd h
parted x (y ∷ xs) (inl e) = ([], xs, ap (λ z. z ∷ xs) (sym e))
parted x (y ∷ xs) (inr h) = let p = parted x xs h in (y ∷ p.0, p.1, ap (λ zs. y ∷ zs) p.2)

-- an element of a list and one more is at its place, or is the last
pub at_push : {A : Type 0} (x : A) (k : ℕ) (xs : List A) (y : A) → IsAt x k (xs ++ y ∷ []) → IsAt x k xs ⊎ ((k ≡ length xs) × (x ≡ y))
at_push x zero [] y h = inr (refl, h)
at_push x (suc k) [] y h = absurd h
at_push x zero (z ∷ xs) y h = inl h
at_push x (suc k) (z ∷ xs) y h = ⊎_elim (λ i. inl i) (λ r. inr (ap suc r.0, r.1)) (at_push x k xs y h)

-- what holds of each element so far, and of the next
pub each_more : {A : Type 0} (P : ℕ → A → Type 0) (xs : List A) (n : ℕ) (x d : A) → length xs ≡ n → ((k : ℕ) → k < n → P k (get_or xs k d)) → P n x → (k : ℕ) → k < n + 1 → P k (get_or (xs ++ x ∷ []) k d)
each_more P xs n x d len before now = below_more (λ k. P k (get_or (xs ++ x ∷ []) k d)) n
    (λ k h. (let l : k < length xs = omega arith in subst (P k) (sym (get_or_append_left xs (x ∷ []) d k l)) (before k h)))
    (subst (P n) (sym (get_or_push xs x d n len)) now)
