-- What functions make of the elements of lists.
use Rattle.std.proofs.Common.{◌≡◌, ℕ, zero, suc, List, [], ◌∷◌, ◌++◌, map, flat_map, refl, ap, ◌∙◌, inl, inr}
use Rattle.std.proofs.lemmas.List.{map-append}
use Rattle.wf_model.specs.Lists.{IsIn, IsAt}

-- two functions that agree on a list make the same list
pub map_same : {A B : Type 0} (f h : A → B) (xs : List A) → ((x : A) → IsIn x xs → f x ≡ h x) → map f xs ≡ map h xs
map_same f h [] same = refl
map_same f h (x ∷ xs) same = ap (λ y. y ∷ map f xs) (same x (inl refl)) ∙ ap (λ ys. h x ∷ ys) (map_same f h xs (λ y i. same y (inr i)))

pub flat_map_same : {A B : Type 0} (f h : A → List B) (xs : List A) → ((x : A) → IsIn x xs → f x ≡ h x) → flat_map f xs ≡ flat_map h xs
flat_map_same f h [] same = refl
flat_map_same f h (x ∷ xs) same = ap (λ l. l ++ flat_map f xs) (same x (inl refl)) ∙ ap (λ l. h x ++ l) (flat_map_same f h xs (λ y i. same y (inr i)))

pub map-flat_map : {A B C : Type 0} (f : B → C) (h : A → List B) (xs : List A) → map f (flat_map h xs) ≡ flat_map (λ x. map f (h x)) xs
map-flat_map f h [] = refl
map-flat_map f h (x ∷ xs) = map-append f (h x) (flat_map h xs) ∙ ap (λ l. map f (h x) ++ l) (map-flat_map f h xs)

-- what a function makes of an element stands at its place
pub at_map : {A B : Type 0} (f : A → B) (x : A) (k : ℕ) (xs : List A) → IsAt x k xs → IsAt (f x) k (map f xs)
at_map f x k [] h = absurd h
at_map f x zero (y ∷ xs) h = ap f h
at_map f x (suc k) (y ∷ xs) h = at_map f x k xs h
