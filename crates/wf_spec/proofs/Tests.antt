-- Tests of each element of a list, and of two numbers.
use Rattle.std.proofs.Common.{◌≡◌, Bool, true, false, ◌&&◌, List, [], ◌∷◌, refl, sym, ap, ◌∙◌, inl, inr, true≢false}
use Rattle.std.specs.List.{list_all}
use Rattle.wf_model.specs.Lists.{IsIn}

pub all_gives : {A : Type 0} (p : A → Bool) (xs : List A) → list_all p xs ≡ true → (x : A) → IsIn x xs → p x ≡ true
all_gives p [] h x i = absurd i
all_gives {A} p (y ∷ xs) h x i = go (λ k j. all_gives p xs k x j) (p y) refl h i
  where
    go : (list_all p xs ≡ true → IsIn x xs → p x ≡ true) → (b : Bool) → p y ≡ b → (b && list_all p xs) ≡ true → IsIn x (y ∷ xs) → p x ≡ true
    go later true e k (inl d) = ap p d ∙ e
    go later true e k (inr j) = later k j
    go later false e k j = absurd (true≢false (sym k))

pub all_from : {A : Type 0} (p : A → Bool) (xs : List A) → ((x : A) → IsIn x xs → p x ≡ true) → list_all p xs ≡ true
all_from p [] h = refl
all_from p (y ∷ xs) h = ap (λ b. b && list_all p xs) (h y (inl refl)) ∙ all_from p xs (λ x i. h x (inr i))
