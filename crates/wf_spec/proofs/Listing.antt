-- Lists that a loop makes, one element for each of another list.
use Rattle.std.proofs.Common.{◌≡◌, ℕ, ◌+◌, ◌<◌, ◌⊎◌, List, [], ◌∷◌, ◌++◌, map, length, get_or, take, sym, ap, ◌∙◌, subst, inl, inr, ⊎_elim}
use Rattle.std.proofs.lemmas.List.{map_more, map-append, take_more}
use Rattle.wf_model.specs.Lists.{IsIn}
use Rattle.wf_model.proofs.Lists.{in_append_cases}
use Rattle.wf_spec.proofs.Tables.{get_in}

-- one element more on both sides
pub made_more : {A B C : Type 0} (f : A → C) (g : B → C) (old new : List A) (a : A) (bs : List B) (i : ℕ) (b : B) → map f old ≡ map g (take i bs) → f a ≡ g b
    → b ≡ get_or bs i b → i < length bs → new ≡ old ++ a ∷ [] → map f new ≡ map g (take (i + 1) bs)
made_more f g old new a bs i b so_far same was inside is =
    ap (map f) is ∙ map-append f old (a ∷ []) ∙ ap (λ cs. cs ++ f a ∷ []) so_far ∙ ap (λ c. map g (take i bs) ++ c ∷ []) (same ∙ ap g was) ∙ sym (map_more g bs i b inside)

-- an element of the first i + 1 is one of the first i or the next
pub in_take_more : {A : Type 0} (n : A) (xs : List A) (i : ℕ) (x : A) → x ≡ get_or xs i x → i < length xs → IsIn n (take (i + 1) xs) → IsIn n (take i xs) ⊎ (n ≡ x)
in_take_more n xs i x was inside here =
    ⊎_elim inl (λ last. inr (only last)) (in_append_cases n (take i xs) (get_or xs i x ∷ []) (subst (IsIn n) (take_more xs i x inside) here))
  where
    only : IsIn n (get_or xs i x ∷ []) → n ≡ x
    only (inl e) = e ∙ sym was
    only (inr h) = absurd h

-- what holds of each of the first i and of the next holds of each of the first i + 1
pub all_take_more : {A : Type 0} (P : A → Type 0) (xs : List A) (i : ℕ) (x : A) → ((n : A) → IsIn n (take i xs) → P n) → P x → x ≡ get_or xs i x → i < length xs
    → (n : A) → IsIn n (take (i + 1) xs) → P n
all_take_more P xs i x all next was inside n here = ⊎_elim (all n) (λ e. subst P (sym e) next) (in_take_more n xs i x was inside here)

-- an element that a loop reads is one of the list
pub read_in : {A : Type 0} (xs : List A) (i : ℕ) (x : A) → x ≡ get_or xs i x → i < length xs → IsIn x xs
read_in xs i x was inside = subst (λ y. IsIn y xs) (sym was) (get_in i xs x inside)

-- what holds of each element and of one more holds of each of the longer list
pub all_push : {A : Type 0} (P : A → Type 0) (old new : List A) (a : A) → ((x : A) → IsIn x old → P x) → P a → new ≡ old ++ a ∷ [] → (x : A) → IsIn x new → P x
all_push P old new a all last is x here =
    ⊎_elim (all x) (λ h. only h) (in_append_cases x old (a ∷ []) (subst (IsIn x) is here))
  where
    only : IsIn x (a ∷ []) → P x
    only (inl e) = subst P (sym e) last
    only (inr h) = absurd h
