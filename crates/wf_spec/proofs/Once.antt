-- Lists in which no element stands twice.
use Rattle.std.proofs.Common.{◌≡◌, List, [], ◌∷◌, ◌++◌, refl, sym, subst, inl, inr, ⊎_elim}
use Rattle.wf_model.specs.Lists.{IsIn, AllDiffer}
use Rattle.wf_model.proofs.Lists.{in_append_left, in_append_right, in_append_cases}

-- another element stands before or after
pub apart_from : {A : Type 0} (x y : A) (l r : List A) → IsIn y (l ++ x ∷ r) → (y ≡ x → ⊥) → IsIn y (l ++ r)
apart_from x y l r h other =
    ⊎_elim
    (λ a. in_append_left y l r a)
    (λ b. ⊎_elim (λ e. absurd (other e)) (λ c. in_append_right y l r c) b)
    (in_append_cases y l (x ∷ r) h)

pub still_in : {A : Type 0} (x y : A) (l r : List A) → IsIn y (l ++ r) → IsIn y (l ++ x ∷ r)
still_in x y l r h =
    ⊎_elim (λ a. in_append_left y l (x ∷ r) a) (λ b. in_append_right y l (x ∷ r) (inr b)) (in_append_cases y l r h)

-- without one of them they differ, and it is not there
pub differ_without : {A : Type 0} (x : A) (l r : List A) → AllDiffer (l ++ x ∷ r) → AllDiffer (l ++ r) × (IsIn x (l ++ r) → ⊥)
differ_without x [] r d = (d.1, d.0)
differ_without x (y ∷ l) r d =
    let w = differ_without x l r d.1 in (
      (λ h. d.0 (still_in x y l r h), w.0),
      λ h. ⊎_elim (λ e. d.0 (subst (λ z. IsIn z (l ++ x ∷ r)) e (in_append_right x l (x ∷ r) (inl refl)))) w.1 h,
    )

-- with one that is not there they differ still
pub differ_with : {A : Type 0} (x : A) (l r : List A) → AllDiffer (l ++ r) → (IsIn x (l ++ r) → ⊥) → AllDiffer (l ++ x ∷ r)
differ_with x [] r d new = (new, d)
differ_with x (y ∷ l) r d new =
    (λ h. d.0 (apart_from x y l r h (λ e. new (inl (sym e)))), differ_with x l r d.1 (λ h. new (inr h)))
