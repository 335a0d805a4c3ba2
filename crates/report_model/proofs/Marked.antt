-- Reports that are kept in one list for ever, with a mark on those that are held: what is found and taken out by the place in the list.
use Rattle.std.proofs.Common.{◌≡◌, ℕ, zero, suc, ◌<◌, Bool, true, false, cond, List, [], ◌∷◌, ◌++◌, map, filter, length, get_or, Some, None, option_map, refl, sym, ap, ◌∙◌, arith}
use Rattle.std.specs.List.{find, slice_set}
use Rattle.std.proofs.lemmas.List.Elements.{filter-append}
use Rattle.report_model.specs.Intake.{without_first}

module _ {A : Type 0} (marked test : A → Bool) where
  -- no marked element before this place passes
  abbrev pub IsBefore : List A → ℕ → A → Type 0
  IsBefore xs k d = (j : ℕ) → j < k → marked (get_or xs j d) ≡ true → test (get_or xs j d) ≡ true → ⊥

  before_rest : (x : A) (xs : List A) (k : ℕ) (d : A) → IsBefore (x ∷ xs) (suc k) d → IsBefore xs k d
  before_rest x xs k d h j l = h (suc j) (omega arith)

  -- where no marked element passes, none is found
  pub none_marked : (xs : List A) (d : A) → IsBefore xs (length xs) d → find test (filter marked xs) ≡ None
  none_marked [] d h = refl
  none_marked (x ∷ xs) d h = go (marked x) (test x) refl refl (none_marked xs d (before_rest x xs (length xs) d h))
    where
      go : (m t : Bool) → marked x ≡ m → test x ≡ t → find test (filter marked xs) ≡ None → find test (cond (marked x) (x ∷ filter marked xs) (filter marked xs)) ≡ None
      go false t e f ih = ap (λ b. find test (cond b (x ∷ filter marked xs) (filter marked xs))) e ∙ ih
      go true false e f ih = ap (λ b. find test (cond b (x ∷ filter marked xs) (filter marked xs))) e ∙ (ap (λ b. cond b (Some x) (find test (filter marked xs))) f ∙ ih)
      go true true e f ih = absurd (h 0 (omega arith) e f)

  -- the first marked element that passes is found, and its mark is taken away where it is taken out
  pub first_marked : (xs : List A) (k : ℕ) (d y : A) → k < length xs → marked (get_or xs k d) ≡ true → test (get_or xs k d) ≡ true → IsBefore xs k d → marked y ≡ false →
      (find test (filter marked xs) ≡ Some (get_or xs k d)) × (without_first test (filter marked xs) ≡ filter marked (slice_set xs k y))
  first_marked [] k d y l m t h n = absurd (omega arith)
  first_marked (x ∷ xs) zero d y l m t h n = (
    ap (λ b. find test (cond b (x ∷ filter marked xs) (filter marked xs))) m ∙ ap (λ b. cond b (Some x) (find test (filter marked xs))) t,
    ap (λ b. without_first test (cond b (x ∷ filter marked xs) (filter marked xs))) m ∙
        (ap (λ b. cond b (filter marked xs) (x ∷ without_first test (filter marked xs))) t ∙ sym (ap (λ b. cond b (y ∷ filter marked xs) (filter marked xs)) n)),
  )
  first_marked (x ∷ xs) (suc k) d y l m t h n = go (marked x) (test x) refl refl (first_marked xs k d y (omega arith) m t (before_rest x xs k d h) n)
    where
      go : (p q : Bool) → marked x ≡ p → test x ≡ q →
          (find test (filter marked xs) ≡ Some (get_or xs k d)) × (without_first test (filter marked xs) ≡ filter marked (slice_set xs k y)) →
          (find test (cond (marked x) (x ∷ filter marked xs) (filter marked xs)) ≡ Some (get_or xs k d)) ×
          (without_first test (cond (marked x) (x ∷ filter marked xs) (filter marked xs)) ≡ cond (marked x) (x ∷ filter marked (slice_set xs k y)) (filter marked (slice_set xs k y)))
      go false q e f ih = (
        ap (λ b. find test (cond b (x ∷ filter marked xs) (filter marked xs))) e ∙ ih.0,
        ap (λ b. without_first test (cond b (x ∷ filter marked xs) (filter marked xs))) e ∙ (ih.1 ∙ sym (ap (λ b. cond b (x ∷ filter marked (slice_set xs k y)) (filter marked (slice_set xs k y))) e)),
      )
      go true false e f ih = (
        ap (λ b. find test (cond b (x ∷ filter marked xs) (filter marked xs))) e ∙ (ap (λ b. cond b (Some x) (find test (filter marked xs))) f ∙ ih.0),
        ap (λ b. without_first test (cond b (x ∷ filter marked xs) (filter marked xs))) e ∙
            (ap (λ b. cond b (filter marked xs) (x ∷ without_first test (filter marked xs))) f ∙
            (ap (λ l. x ∷ l) ih.1 ∙ sym (ap (λ b. cond b (x ∷ filter marked (slice_set xs k y)) (filter marked (slice_set xs k y))) e))),
      )
      go true true e f ih = absurd (h 0 (omega arith) e f)

  -- a marked element that comes last is last of those that are marked
  pub marked_last : (xs : List A) (y : A) → marked y ≡ true → filter marked (xs ++ y ∷ []) ≡ filter marked xs ++ y ∷ []
  marked_last xs y m = filter-append marked xs (y ∷ []) ∙ ap (λ b. filter marked xs ++ cond b (y ∷ []) []) m

-- what is made of each element
module _ {A B : Type 0} (f : A → B) (test : B → Bool) where
  pub find-map : (xs : List A) → find test (map f xs) ≡ option_map f (find (λ a. test (f a)) xs)
  find-map [] = refl
  find-map (x ∷ xs) = go (test (f x)) (find-map xs)
    where
      go : (b : Bool) → find test (map f xs) ≡ option_map f (find (λ a. test (f a)) xs) → cond b (Some (f x)) (find test (map f xs)) ≡ option_map f (cond b (Some x) (find (λ a. test (f a)) xs))
      go true ih = refl
      go false ih = ih

  pub without_first-map : (xs : List A) → without_first test (map f xs) ≡ map f (without_first (λ a. test (f a)) xs)
  without_first-map [] = refl
  without_first-map (x ∷ xs) = go (test (f x)) (without_first-map xs)
    where
      go : (b : Bool) → without_first test (map f xs) ≡ map f (without_first (λ a. test (f a)) xs) → cond b (map f xs) (f x ∷ without_first test (map f xs)) ≡ map f (cond b xs (x ∷ without_first (λ a. test (f a)) xs))
      go true ih = refl
      go false ih = ap (λ l. f x ∷ l) ih

-- an element that is put in the place of another of which the same is made
pub same_made : {A B : Type 0} (f : A → B) (xs : List A) (k : ℕ) (d y : A) → f y ≡ f (get_or xs k d) → map f (slice_set xs k y) ≡ map f xs
same_made f [] k d y e = refl
same_made f (x ∷ xs) zero d y e = ap (λ z. z ∷ map f xs) e
same_made f (x ∷ xs) (suc k) d y e = ap (λ l. f x ∷ l) (same_made f xs k d y e)
