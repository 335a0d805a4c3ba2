-- What is left of a list where an element is taken out and the last one takes its place.
use Rattle.std.proofs.Common.{◌≡◌, ℕ, ◌-◌, ◌<◌, ◌⊎◌, List, ◌∷◌, map, length, get_or, take, set, swap_remove, Contains, sym, ap, ◌∙◌, subst, inl, inr, ⊎_elim, arith}
use Rattle.std.proofs.lemmas.List.{length-map, take-map, map-set, get_or-map, get_or_default}
use Rattle.std.proofs.lemmas.List.Sorted.{IsPermutation-swap_remove, IsPermutation-sym, Contains-permutation}
use Rattle.wf_model.specs.Lists.{IsIn}
use Rattle.wf_model.proofs.Lists.{at_below, at_is, in_at}
use Rattle.wf_model.proofs.Positions.{in_there}

pub swap-mapped : {A B : Type 0} (f : A → B) (xs : List A) (k : ℕ) (d : A) (e : B) → k < length xs → map f (swap_remove xs k d) ≡ swap_remove (map f xs) k e
swap-mapped f xs k d e h =
    let n = length xs - 1 in
    let below : length xs - 1 < length xs = omega arith in
    let same : length xs - 1 ≡ length (map f xs) - 1 = ap (λ m. m - 1) (sym (length-map xs f)) in
    sym (take-map f (length xs - 1) (set xs k (get_or xs (length xs - 1) d)))
    ∙ (ap (take (length xs - 1)) (map-set f xs k (get_or xs (length xs - 1) d) ∙ ap (set (map f xs) k) (sym (get_or-map f xs (length xs - 1) d e below)))
    ∙ ap (λ m. take m (set (map f xs) k (get_or (map f xs) m e))) same)

swap-default : {A : Type 0} (xs : List A) (k : ℕ) (d e : A) → k < length xs → swap_remove xs k d ≡ swap_remove xs k e
swap-default xs k d e h =
    let below : length xs - 1 < length xs = omega arith in
    ap (λ x. take (length xs - 1) (set xs k x)) (get_or_default xs (length xs - 1) d e below)

in_contains : {A : Type 0} (x : A) (xs : List A) → IsIn x xs → Contains xs x
in_contains x xs h = let p = in_at x xs h in (p.0, at_below x p.0 xs p.1, at_is x p.0 xs x p.1)

contains_in : {A : Type 0} (x : A) (xs : List A) → Contains xs x → IsIn x xs
contains_in x xs c = in_there xs c.0 x c.1 (sym c.2)

-- an element is the one that was taken, or it is left
pub taken_or_left : {A : Type 0} (xs : List A) (k : ℕ) (d y : A) → k < length xs → IsIn y xs → (y ≡ get_or xs k d) ⊎ IsIn y (swap_remove xs k d)
taken_or_left xs k d y h i =
    let x = get_or xs k d in
    let p = IsPermutation-swap_remove xs k (get_or xs k d) h (get_or_default xs k d (get_or xs k d) h) in
    let c = contains_in y (get_or xs k d ∷ swap_remove xs k (get_or xs k d)) (Contains-permutation xs (get_or xs k d ∷ swap_remove xs k (get_or xs k d)) y p (in_contains y xs i)) in
    ⊎_elim (λ e. inl e) (λ r. inr (subst (λ l. IsIn y l) (swap-default xs k (get_or xs k d) d h) r)) c

-- what is left was there
pub left_in : {A : Type 0} (xs : List A) (k : ℕ) (d y : A) → k < length xs → IsIn y (swap_remove xs k d) → IsIn y xs
left_in xs k d y h i =
    let p = IsPermutation-swap_remove xs k (get_or xs k d) h (get_or_default xs k d (get_or xs k d) h) in
    let j : IsIn y (swap_remove xs k (get_or xs k d)) = subst (λ l. IsIn y l) (swap-default xs k d (get_or xs k d) h) i in
    contains_in y xs (Contains-permutation (get_or xs k d ∷ swap_remove xs k (get_or xs k d)) xs y (IsPermutation-sym xs (get_or xs k d ∷ swap_remove xs k (get_or xs k d)) p) (in_contains y (get_or xs k d ∷ swap_remove xs k (get_or xs k d)) (inr j)))
