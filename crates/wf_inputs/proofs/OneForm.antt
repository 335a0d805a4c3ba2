-- A text that has not the form of an event tells none, and is refused in one way.
use Rattle.std.proofs.Common.{◌≡◌, ℕ, List, Some, None, sym, ap, ◌∙◌, inl, inr}
use Rattle.wf_model.specs.declared.event.Event.{Event}
use Rattle.wf_events.specs.EventForm.{event_of}
use Rattle.wf_inputs.specs.RunTold.{IsEventText, RefusesForm}
use Rattle.wf_inputs.proofs.OneValue.{one_reading}
use Rattle.wf_inputs.proofs.OneRefusal.{unread}

-- what has not the form of an event tells none
pub no_event : (text x : List ℕ) (e : Event) → RefusesForm text x → IsEventText text e → ⊥
no_event text x e (inl p) is = unread text is.0 p.0 is.1
no_event text x e (inr p) is = let r : Some e ≡ None = sym is.2 ∙ (ap event_of (one_reading text is.0 p.0 is.1 p.1) ∙ p.2) in absurd (cc)

pub one_form_fault : (text x y : List ℕ) → RefusesForm text x → RefusesForm text y → x ≡ y
one_form_fault text x y (inl p) (inl q) = p.1 ∙ sym q.1
one_form_fault text x y (inl p) (inr q) = absurd (unread text q.0 p.0 q.1)
one_form_fault text x y (inr p) (inl q) = absurd (unread text p.0 q.0 p.1)
one_form_fault text x y (inr p) (inr q) = p.3 ∙ sym q.3
