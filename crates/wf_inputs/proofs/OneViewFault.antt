-- A view has one refusal at most, and none where it is told and safe.
use Rattle.std.proofs.Common.{◌≡◌, ℕ, List, sym, ap, ◌∙◌, subst, inl, inr}
use Rattle.wf_model.specs.declared.parts.ViewParts.{ViewParts}
use Rattle.wf_model.specs.Grammar.{Grammar}
use Rattle.wf_model.specs.WellFormed.{IsWellFormed}
use Rattle.wf_model.specs.View.{View}
use Rattle.wf_model.specs.Safe.{IsSafe}
use Rattle.wf_json.specs.ViewForm.{view_of as parts_in}
use Rattle.wf_view.specs.Viewing.{view_of}
use Rattle.wf_view.specs.Rules.{rules_of}
use Rattle.wf_spec.proofs.FirstFaults.{no_fault, one_first}
use Rattle.wf_safe.proofs.OneFirstWitness.{one_first_witness}
use Rattle.wf_safe.specs.WitnessText.{unsafe_text}
use Rattle.wf_view.specs.FaultText.{view_text}
use Rattle.wf_inputs.specs.ViewTold.{TellsView, RefusesUnsafe, RefusesViewParts, RefusesView}
use Rattle.wf_inputs.proofs.OneRefusal.{one_of_bytes, none_of_bytes}

module _ (g : Grammar) where
  module _ (formed : IsWellFormed g) where
    one_unsafe : (u : View) (x y : List ℕ) → RefusesUnsafe g u x → RefusesUnsafe g u y → x ≡ y
    one_unsafe u x y (_, (r, w, p, f, is)) (_, (s, v, q, h, also)) =
        is ∙ (ap (unsafe_text g) (one_first_witness g u formed r s w v p q f h) ∙ sym also)

    one_of_parts : (parts : ViewParts) (x y : List ℕ) → RefusesViewParts g parts x → RefusesViewParts g parts y → x ≡ y
    one_of_parts parts x y (inl p) (inl q) = p.2 ∙ (ap view_text (one_first (rules_of g parts) p.0 q.0 p.1 q.1) ∙ sym q.2)
    one_of_parts parts x y (inl p) (inr q) = absurd (no_fault (rules_of g parts) p.0 q.0 p.1)
    one_of_parts parts x y (inr p) (inl q) = absurd (no_fault (rules_of g parts) q.0 p.0 q.1)
    one_of_parts parts x y (inr p) (inr q) = one_unsafe (view_of g parts) x y p.1 q.1

    -- the bytes of a view have one refusal
    pub one_refusal_of_view : (bytes x y : List ℕ) → RefusesView g bytes x → RefusesView g bytes y → x ≡ y
    one_refusal_of_view = one_of_bytes parts_in (RefusesViewParts g) one_of_parts

  none_of_parts : (bytes : List ℕ) (u : View) (t : TellsView g bytes u) (x : List ℕ) → RefusesViewParts g t.parts x → ⊥
  none_of_parts bytes u t x (inl p) = no_fault (rules_of g t.parts) p.0 t.viewed p.1
  none_of_parts bytes u t x (inr p) = p.1.0 (subst (IsSafe g) t.is t.safe)

  -- bytes that tell a safe view have none
  pub no_refusal_of_view : (bytes x : List ℕ) (u : View) → TellsView g bytes u → RefusesView g bytes x → ⊥
  no_refusal_of_view bytes x u t = none_of_bytes parts_in (RefusesViewParts g) t.parts (none_of_parts bytes u t) bytes x t.read
