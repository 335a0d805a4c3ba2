-- The table of the pairs that a view shows is right, as far as it goes.
use Rattle.std.proofs.Common.{◌≡◌, ℕ, ◌<◌, ◌≤◌, Bool, true, false, cond, IsTrue, List, [], Option, None, Some, length, get_or, is_some, refl, sym, ap, ◌∙◌, inl, inr, arith, true≢false}
use Rattle.std.proofs.lemmas.Bool.{cases_lt}
use Rattle.wf_model.specs.Grammar.{Grammar}
use Rattle.wf_model.specs.View.{expands}
use Rattle.wf_model.specs.Meaning.{bit_of}
use Rattle.wf_model.specs.Safe.{IsChosen}
use Rattle.wf_view.specs.Held.{HeldView, IsHeldFor}
use Rattle.wf_view.specs.ShownTable.{AreOnlyShownBelow}
use Rattle.wf_body.specs.Matrices.{HasRows}
use Rattle.wf_safe.specs.Settling.{is_set, AreShown, AreRowsByChoice}
use Rattle.wf_safe.specs.Witness.{IsChoiceOf}

-- what has rows is a module that is not expanded, and has those that the view shows
record IsToldOf (g : Grammar) (v : HeldView) (rows : List (Option (List ℕ))) (m : ℕ) : Type 0 where
  there : m < length g.modules
  closed : expands v.core m ≡ false
  shows : get_or rows m None ≡ Some (get_or v.rows m [])

module _ (g : Grammar) (v : HeldView) (held : IsHeldFor g v) (rows : List (Option (List ℕ))) (all : AreOnlyShownBelow g v (length g.modules) rows) where
  not_none : (m : ℕ) → IsTrue (is_set rows m) → get_or rows m None ≡ None → ⊥
  not_none m s e = true≢false (sym s ∙ ap (λ (z : Option (List ℕ)). is_some z) e)

  told : (m : ℕ) → IsTrue (is_set rows m) → IsToldOf g v rows m
  told m s = elim (cases_lt m (length g.modules)) [
    | inl l ↦ by l (expands v.core m) refl
    | inr l ↦ absurd (not_none m s (all.none m l))
  ]
    where
      by : m < length g.modules → (b : Bool) → expands v.core m ≡ b → IsToldOf g v rows m
      by l true e = absurd (not_none m s (all.below m l ∙ ap (λ b. cond b None (Some (get_or v.rows m []))) e))
      by l false e = record { there = l; closed = e; shows = all.below m l ∙ ap (λ b. cond b None (Some (get_or v.rows m []))) e }

  has_rows : (m : ℕ) → IsTrue (is_set rows m) → HasRows g rows m
  has_rows m s =
      let t = told m s in
      let h = held.rows m t.there t.closed in
      record { rows = get_or v.rows m []; within = let e = all.each in let l = t.there in omega arith; held = t.shows; one_each = h.one_each; no_more = h.no_more }

  shown : (m : ℕ) → m < length g.modules → expands v.core m ≡ false → IsTrue (is_set rows m) × AreShown g v.core rows m
  shown m l e =
      let here : get_or rows m None ≡ Some (get_or v.rows m []) = all.below m l ∙ ap (λ b. cond b None (Some (get_or v.rows m []))) e in
      (ap (λ (z : Option (List ℕ)). is_some z) here, λ i o hi ho. ap (λ (z : Option (List ℕ)). bit_of z i o) here ∙ (held.rows m l e).bits i o hi ho)

  -- nothing is chosen yet
  pub begun : (choice : List (ℕ × ℕ)) → IsChoiceOf g v.core choice → AreRowsByChoice g v.core choice rows
  begun choice ch = record {
    table = record { one_each = all.each; formed = has_rows };
    shown = shown;
    settled = λ m s. (0, (told m s).closed);
    bodies = λ m p c s. absurd (true≢false (sym (ch.seen m p c).1 ∙ (told m s).closed));
  }
