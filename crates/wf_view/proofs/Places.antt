-- Elements at places of lists that are made or changed.
use Rattle.std.proofs.Common.{◌≡◌, ◌≢◌, ◌⊎◌, ℕ, zero, suc, ◌+◌, ◌<◌, List, [], ◌∷◌, length, get_or, map, set, take, refl, sym, ap, ◌∙◌, subst, inl, inr, ⊎_elim, arith}
use Rattle.std.proofs.lemmas.List.{get_or-map, take-map}
use Rattle.wf_model.specs.Lists.{IsIn, IsAt, AllDiffer, numbers_from}
use Rattle.wf_model.proofs.Lists.{in_map}
use Rattle.wf_spec.specs.Naming.{IsNewAt}

-- an element of a list in which one is set is that one, or was there before
pub at_set : {A : Type 0} (x : A) (j : ℕ) (xs : List A) (k : ℕ) (y : A) → IsAt x j (set xs k y) → ((j ≡ k) × (x ≡ y)) ⊎ ((j ≢ k) × IsAt x j xs)
at_set x j [] k y at = absurd at
at_set x zero (z ∷ xs) zero y at = inl (refl, at)
at_set x (suc j) (z ∷ xs) zero y at = inr ((λ e. absurd (omega arith)), at)
at_set x zero (z ∷ xs) (suc k) y at = inr ((λ e. absurd (omega arith)), at)
at_set x (suc j) (z ∷ xs) (suc k) y at = ⊎_elim (λ d. inl (ap suc d.0, d.1)) (λ d. inr ((λ e. d.0 (omega arith)), d.1)) (at_set x j xs k y at)

-- what a function makes of each element of a list is what another makes of its place
pub map_places : {A B : Type 0} (f : A → B) (h : ℕ → B) (xs : List A) (k : ℕ) → ((j : ℕ) (x : A) → IsAt x j xs → f x ≡ h (k + j)) → map f xs ≡ map h (numbers_from k (length xs))
map_places f h [] k each = refl
map_places f h (x ∷ xs) k each =
    ap (λ y. y ∷ map f xs) (each 0 x refl ∙ ap h (let e : k + 0 ≡ k = omega arith in e))
    ∙ ap (λ ys. h k ∷ ys) (map_places f h xs (suc k) (λ j y at. each (suc j) y at ∙ ap h (let e : k + suc j ≡ suc k + j = omega arith in e)))

-- and what a function makes of it is there in what it makes of all
pub get_mapped : {A B : Type 0} (f : A → B) (x : A) (k : ℕ) (xs : List A) (d : B) → IsAt x k xs → get_or (map f xs) k d ≡ f x
get_mapped f x k [] d at = absurd at
get_mapped f x zero (y ∷ xs) d at = ap f (sym at)
get_mapped f x (suc k) (y ∷ xs) d at = get_mapped f x k xs d at

-- so two elements that have one name are one
pub same_element : {A : Type 0} (f : A → List ℕ) (xs : List A) → AllDiffer (map f xs) → (x y : A) → IsIn x xs → IsIn y xs → f x ≡ f y → x ≡ y
same_element f [] d x y i j e = absurd i
same_element f (z ∷ xs) d x y (inl a) (inl b) e = a ∙ sym b
same_element f (z ∷ xs) d x y (inl a) (inr j) e = absurd (d.0 (subst (λ n. IsIn n (map f xs)) (sym e ∙ ap f a) (in_map f y xs j)))
same_element f (z ∷ xs) d x y (inr i) (inl b) e = absurd (d.0 (subst (λ n. IsIn n (map f xs)) (e ∙ ap f b) (in_map f x xs i)))
same_element f (z ∷ xs) d x y (inr i) (inr j) e = same_element f xs d.1 x y i j e

-- the name of an element that is read is none of those before it
pub new_read : {A : Type 0} (f : A → List ℕ) (xs : List A) (k : ℕ) (x : A) → IsNewAt (map f xs) k → x ≡ get_or xs k x → k < length xs → ¬ IsIn (f x) (map f (take k xs))
new_read f xs k x new was inside here =
    new (subst (λ n. IsIn n (take k (map f xs))) (ap f was ∙ sym (get_or-map f xs k x [] inside)) (subst (IsIn (f x)) (sym (take-map f k xs)) here))
