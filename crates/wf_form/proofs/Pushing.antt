-- Lists that are made by pushing what each element of another list gives.
use Rattle.std.proofs.Common.{◌≡◌, ℕ, ◌+◌, ◌<◌, List, [], ◌∷◌, ◌++◌, map, take, length, get_or, sym, ap, ◌∙◌, subst}
use Rattle.std.proofs.lemmas.List.{map-append, append_assoc, map_more, take_more}

-- one more push, after what was there before, of what an element gives that is read from the other list
pub pushed_more : {A B C : Type 0} (f : A → C) (g : B → C) (before : List C) (old new : List A) (a : A) (read bs : List B) (i : ℕ) (b : B) → map f old ≡ before ++ map g (take i bs)
    → f a ≡ g (get_or read i b) → i < length read → read ≡ bs → new ≡ old ++ a ∷ [] → map f new ≡ before ++ map g (take (i + 1) bs)
pushed_more f g before old new a read bs i b so_far same inside held is =
    ap (map f) is ∙ map-append f old (a ∷ []) ∙ ap (λ cs. cs ++ f a ∷ []) so_far ∙ append_assoc before (map g (take i bs)) (f a ∷ [])
    ∙ ap (λ c. before ++ (map g (take i bs) ++ c ∷ [])) (same ∙ ap (λ l. g (get_or l i b)) held) ∙ ap (λ cs. before ++ cs) (sym (map_more g bs i b (subst (λ l. i < length l) held inside)))

-- one more push of what an element gives
pub gathered_more : {B C : Type 0} (g : B → C) (old new : List C) (a : C) (bs : List B) (i : ℕ) (b : B) → old ≡ map g (take i bs) → a ≡ g b → b ≡ get_or bs i b → i < length bs → new ≡ old ++ a ∷ []
    → new ≡ map g (take (i + 1) bs)
gathered_more g old new a bs i b so_far same was inside is =
    is ∙ ap (λ cs. cs ++ a ∷ []) so_far ∙ ap (λ c. map g (take i bs) ++ c ∷ []) (same ∙ ap g was) ∙ sym (map_more g bs i b inside)

-- one more push of a copy of an element
pub copied_more : {B : Type 0} (old new : List B) (a : B) (bs : List B) (i : ℕ) (b : B) → old ≡ take i bs → a ≡ b → b ≡ get_or bs i b → i < length bs → new ≡ old ++ a ∷ [] → new ≡ take (i + 1) bs
copied_more old new a bs i b so_far same was inside is =
    is ∙ ap (λ cs. cs ++ a ∷ []) so_far ∙ ap (λ c. take i bs ++ c ∷ []) (same ∙ was) ∙ sym (take_more bs i b inside)
