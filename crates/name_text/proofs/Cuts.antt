-- A list that is cut at the first place of a number.
use Rattle.std.proofs.Common.{◌≡◌, ℕ, List, [], ◌∷◌, ◌++◌, refl, sym, ap, ◌∙◌, subst, inl, inr, arith}
use Rattle.wf_model.specs.Lists.{IsIn}
use Rattle.wf_model.proofs.Lists.{in_append_right}

-- a list is cut in one way at the first place of a number
pub one_cut : (at : ℕ) (a b c d : List ℕ) → (IsIn at a → ⊥) → (IsIn at c → ⊥) → a ++ at ∷ b ≡ c ++ at ∷ d → (a ≡ c) × (b ≡ d)
one_cut at [] b [] d h k e = (refl, grind (arith, e))
one_cut at [] b (y ∷ c) d h k e = absurd (k (inl (grind (arith, e))))
one_cut at (x ∷ a) b [] d h k e = absurd (h (inl (grind (arith, e))))
one_cut at (x ∷ a) b (y ∷ c) d h k e =
    let r = one_cut at a b c d (λ i. h (inr i)) (λ i. k (inr i)) (grind (arith, e)) in
    let q : x ≡ y = grind (arith, e) in
    (ap (λ z. z ∷ a) q ∙ ap (λ zs. y ∷ zs) r.0, r.1)

-- the number stands where the list is cut
pub stands : (at : ℕ) (s a b : List ℕ) → s ≡ a ++ at ∷ b → IsIn at s
stands at s a b e = subst (λ z. IsIn at z) (sym e) (in_append_right at a (at ∷ b) (inl refl))
