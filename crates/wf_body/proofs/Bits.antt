-- Words whose bits are added.
use Rattle.std.proofs.Common.{◌≡◌, ℕ, ◌<◌, ◌⊎◌, ◌↔◌, Bool, ◌==◌, IsTrue, List, length, get_or, set, bit_or, refl, sym, ◌∙◌, subst, inl, inr, ⊎_elim}
use Rattle.std.proofs.lemmas.Bool.{eqb-true, eq-eqb, cases_eq}
use Rattle.std.proofs.lemmas.List.{get_or-set_same, get_or-set_other}
use Rattle.bool_mat.specs.Matrix.{has}
use Rattle.bool_mat.proofs.Rows.{has_or}
use Rattle.bool_mat.proofs.MatrixLaws.{row_same}
use Rattle.wf_body.specs.Words.{Gains}

-- a word added at a place
pub gains : (old : List ℕ) (at word : ℕ) → at < length old → Gains old at word (set old at (bit_or (get_or old at 0) word))
gains old at word h j x =
    elim (cases_eq j at) [
      | inl e ↦ subst (λ z. IsTrue (has (get_or (set old at (bit_or (get_or old at 0) word)) z 0) x) ↔ (IsTrue (has (get_or old z 0) x) ⊎ ((z ≡ at) × IsTrue (has word x)))) (sym e)
          (subst (λ z. IsTrue (has z x) ↔ (IsTrue (has (get_or old at 0) x) ⊎ ((at ≡ at) × IsTrue (has word x)))) (sym (get_or-set_same old at (bit_or (get_or old at 0) word) 0 h))
          (let o = has_or (get_or old at 0) word x in (
            (λ t. ⊎_elim (λ a. inl a) (λ b. inr (refl, b)) (o.0 t)),
            λ s. o.1 (⊎_elim (λ a. inl a) (λ b. inr b.1) s),
          )))
      | inr n ↦ subst (λ z. IsTrue (has z x) ↔ (IsTrue (has (get_or old j 0) x) ⊎ ((j ≡ at) × IsTrue (has word x)))) (sym (get_or-set_other old at j (bit_or (get_or old at 0) word) 0 n))
          ((λ t. inl t), λ s. ⊎_elim (λ a. a) (λ b. absurd (n b.0)) s)
    ]

-- one word adds nothing to another exactly if each of its bits is there
pub within : (part whole : ℕ) (r : Bool) → r ≡ (bit_or part whole == whole) → IsTrue r ↔ ((x : ℕ) → IsTrue (has part x) → IsTrue (has whole x))
within part whole r e = (
  (λ t x h. subst (λ z. IsTrue (has z x)) (eqb-true (bit_or part whole) whole (sym e ∙ t)) ((has_or part whole x).1 (inl h))),
  λ f. e ∙ eq-eqb (bit_or part whole) whole (row_same (bit_or part whole) whole (λ x. ((λ h. ⊎_elim (f x) (λ b. b) ((has_or part whole x).0 h)), λ h. (has_or part whole x).1 (inr h)))),
)
