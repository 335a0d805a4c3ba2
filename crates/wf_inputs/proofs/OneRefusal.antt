-- Bytes that say something by a form in JSON have one refusal at most where what they say has.
use Rattle.std.proofs.Common.{◌≡◌, ◌⊎◌, ℕ, List, Some, None, sym, ap, ◌∙◌, subst, inl, inr}
use Rattle.std.specs.Prelude.{Result, Ok, Err, codes}
use Rattle.serde_json.specs.Data.{Data}
use Rattle.wf_json.specs.declared.fault.Member.{Member}
use Rattle.wf_json.specs.Reading.{IsReading, HasNoReading}
use Rattle.wf_json.specs.FaultText.{shape_text}
use Rattle.wf_inputs.proofs.OneValue.{IsSaid, one_reading, one_ok, one_err, ok_not_err}

-- bytes without a reading have none
pub unread : (bytes : List ℕ) (d : Data) → HasNoReading bytes → IsReading bytes d → ⊥
unread bytes d none h = let e : Some d ≡ None = sym h.1 ∙ none h.0 in absurd (cc)

module _ {A : Type 0} (form : Data → Result A Member) (Refuses : A → List ℕ → Type 0) where
  -- why a value is refused: a member has not its form; or what the value says is refused
  abbrev RefusesValue : Data → List ℕ → Type 0
  RefusesValue d fault =
      ((m : Member) × (form d ≡ Err m) × (fault ≡ shape_text m)) ⊎
      ((a : A) × (form d ≡ Ok a) × Refuses a fault)

  -- why bytes are refused: they have no reading; or the value that they read as is refused
  abbrev RefusesBytes : List ℕ → List ℕ → Type 0
  RefusesBytes bytes fault =
      (HasNoReading bytes × (fault ≡ codes "NotJson")) ⊎
      ((d : Data) × IsReading bytes d × RefusesValue d fault)

  module _ (one : (a : A) (x y : List ℕ) → Refuses a x → Refuses a y → x ≡ y) where
    one_of_value : (d : Data) (x y : List ℕ) → RefusesValue d x → RefusesValue d y → x ≡ y
    one_of_value d x y (inl p) (inl q) = p.2 ∙ (ap shape_text (one_err (form d) p.0 q.0 p.1 q.1) ∙ sym q.2)
    one_of_value d x y (inl p) (inr q) = absurd (ok_not_err (form d) q.0 p.0 q.1 p.1)
    one_of_value d x y (inr p) (inl q) = absurd (ok_not_err (form d) p.0 q.0 p.1 q.1)
    one_of_value d x y (inr p) (inr q) = one q.0 x y (subst (λ z. Refuses z x) (one_ok (form d) p.0 q.0 p.1 q.1) p.2) q.2

    -- bytes have one refusal
    pub one_of_bytes : (bytes x y : List ℕ) → RefusesBytes bytes x → RefusesBytes bytes y → x ≡ y
    one_of_bytes bytes x y (inl p) (inl q) = p.1 ∙ sym q.1
    one_of_bytes bytes x y (inl p) (inr q) = absurd (unread bytes q.0 p.0 q.1)
    one_of_bytes bytes x y (inr p) (inl q) = absurd (unread bytes p.0 q.0 p.1)
    one_of_bytes bytes x y (inr p) (inr q) = one_of_value q.0 x y (subst (λ d. RefusesValue d x) (one_reading bytes p.0 q.0 p.1 q.1) p.2) q.2

  module _ (a : A) (none : (x : List ℕ) → Refuses a x → ⊥) where
    none_of_value : (d : Data) (x : List ℕ) → form d ≡ Ok a → RefusesValue d x → ⊥
    none_of_value d x is (inl p) = ok_not_err (form d) a p.0 is p.1
    none_of_value d x is (inr p) = none x (subst (λ z. Refuses z x) (one_ok (form d) p.0 a p.1 is) p.2)

    -- bytes that say what is not refused have none
    pub none_of_bytes : (bytes x : List ℕ) → IsSaid form bytes a → RefusesBytes bytes x → ⊥
    none_of_bytes bytes x said (inl p) = unread bytes said.0 p.0 said.1
    none_of_bytes bytes x said (inr p) = none_of_value p.0 x (ap form (one_reading bytes p.0 said.0 p.1 said.1) ∙ said.2) p.2
