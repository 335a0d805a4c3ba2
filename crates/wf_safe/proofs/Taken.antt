-- The first elements of a list, and one more.
use Rattle.std.proofs.Common.{◌≡◌, ℕ, ◌+◌, ◌<◌, ◌⊎◌, List, [], ◌∷◌, ◌++◌, map, length, get_or, take, ap, ◌∙◌, subst, inl, inr, ⊎_elim}
use Rattle.std.proofs.lemmas.List.{take_more, map_push}
use Rattle.wf_model.specs.Lists.{IsIn}
use Rattle.wf_model.proofs.Lists.{in_append_cases, in_map, is_at, at_in}

-- what is made of one of the first k + 1 elements is made of one of the first k, or of the next
pub in_more : {A B : Type 0} (f : A → B) (y : B) (xs : List A) (k : ℕ) (d : A) → k < length xs → IsIn y (map f (take (k + 1) xs)) → IsIn y (map f (take k xs)) ⊎ (y ≡ f (get_or xs k d))
in_more {A} {B} f y xs k d h i =
    let same : map f (take (k + 1) xs) ≡ map f (take k xs) ++ f (get_or xs k d) ∷ [] = ap (map f) (take_more xs k d h) ∙ map_push f (take k xs) (get_or xs k d) in
    ⊎_elim (λ q. inl q) (λ q. inr (⊎_elim (λ e. e) (λ e. absurd e) q))
    (in_append_cases y (map f (take k xs)) (f (get_or xs k d) ∷ []) (subst (IsIn y) same i))

-- what is made of the next is made of one of the list
pub in_next : {A B : Type 0} (f : A → B) (xs : List A) (k : ℕ) (d : A) → k < length xs → IsIn (f (get_or xs k d)) (map f xs)
in_next f xs k d h = in_map f (get_or xs k d) xs (at_in (get_or xs k d) k xs (is_at k xs d h))
