-- Lists in order, and the first of their elements that has a value.
use Rattle.std.proofs.Common.{◌≡◌, ℕ, ◌<◌, ◌⊎◌, ◌==◌, Bool, true, false, cond, List, [], ◌∷◌, ◌++◌, map, Some, refl, sym, ap, ◌∙◌, subst, inl, inr, ⊎_elim, arith, true≢false}
use Rattle.std.specs.Prelude.{find}
use Rattle.std.proofs.lemmas.Bool.{cases_Bool, eqb-true}
use Rattle.wf_model.specs.Lists.{IsIn}
use Rattle.wf_graph.specs.Routes.{place_of}
use Rattle.wf_graph.proofs.Routes.{place_cases}

module _ {A : Type 0} (value : A → ℕ) (Before : A → A → Type 0) where
  -- each element stands before those behind it
  abbrev pub IsOrdered : List A → Type 0
  IsOrdered [] = Unit {0}
  IsOrdered (x ∷ xs) = ((y : A) → IsIn y xs → Before x y) × IsOrdered xs

  pub ordered-append : (xs ys : List A) → IsOrdered xs → IsOrdered ys → ((x y : A) → IsIn x xs → IsIn y ys → Before x y) → IsOrdered (xs ++ ys)
  ordered-append [] ys a b c = b
  ordered-append (x ∷ xs) ys a b c = (
    λ y i. ⊎_elim (λ j. a.0 y j) (λ j. c x y (inl refl) j) (Rattle.wf_model.proofs.Lists.in_append_cases y xs ys i),
    ordered-append xs ys a.1 b (λ z y i j. c z y (inr i) j),
  )

  -- the first at the head of a list, or behind it
  found_cases : (x p : A) (xs : List A) (w : ℕ) → find (λ y. value y == w) (x ∷ xs) ≡ Some p → ((value x ≡ w) × (p ≡ x)) ⊎ ((value x ≡ w → ⊥) × (find (λ y. value y == w) xs ≡ Some p))
  found_cases x p xs w h = go (value x == w) refl h
    where
      go : (t : Bool) → (value x == w) ≡ t → cond t (Some x) (find (λ y. value y == w) xs) ≡ Some p → ((value x ≡ w) × (p ≡ x)) ⊎ ((value x ≡ w → ⊥) × (find (λ y. value y == w) xs ≡ Some p))
      go true e f = inl (eqb-true (value x) w e, cc)
      go false e f = inr (λ q. true≢false (sym (same q) ∙ e), f)
        where
          same : value x ≡ w → (value x == w) ≡ true
          same q = grind (arith, Rattle.std.proofs.lemmas.Bool.Decides.nat_tests)

  -- any other element of the same value stands behind the first
  pub first_or_later : (xs : List A) → IsOrdered xs → (w : ℕ) (p u : A) → find (λ y. value y == w) xs ≡ Some p → IsIn u xs → value u ≡ w → (p ≡ u) ⊎ Before p u
  first_or_later [] o w p u f i e = absurd i
  first_or_later (x ∷ xs) o w p u f i e = ⊎_elim
      (λ c. ⊎_elim (λ (d : u ≡ x). inl (c.1 ∙ sym d)) (λ j. inr (subst (λ z. Before z u) (sym c.1) (o.0 u j))) i)
      (λ c. ⊎_elim (λ (d : u ≡ x). absurd (c.0 (sym (ap value d) ∙ e))) (λ j. first_or_later xs o.1 w p u c.1 j e) i)
      (found_cases x p xs w f)

  -- where one value comes before another, its first element stands before all of the other
  pub first_before : (xs : List A) → IsOrdered xs → (w v : ℕ) (p u : A) → find (λ y. value y == w) xs ≡ Some p → IsIn u xs → value u ≡ v → place_of w (map value xs) < place_of v (map value xs) → Before p u
  first_before [] o w v p u f i e l = absurd i
  first_before (x ∷ xs) o w v p u f i e l = ⊎_elim
      (λ c. absurd (omega (arith, c.1)))
      (λ c. ⊎_elim
      (λ b. ⊎_elim (λ (d : u ≡ x). absurd (c.0 (sym e ∙ ap value d))) (λ j. subst (λ z. Before z u) (sym b.1) (o.0 u j)) i)
      (λ b. ⊎_elim
      (λ (d : u ≡ x). absurd (c.0 (sym e ∙ ap value d)))
      (λ j. first_before xs o.1 w v p u b.1 j e (⊎_elim (λ a. absurd (b.0 (sym a.0))) (λ a. let n = a.1 in let m = c.1 in omega arith) (place_cases w (value x) (map value xs))))
      i)
      (found_cases x p xs w f))
      (place_cases v (value x) (map value xs))
