-- Which items of a run are visible under a view is told by their labels.
use Rattle.std.proofs.Common.{◌≡◌, ℕ, ◌^◌, Bool, true, false, cond, List, Option, Some, None, refl, ap, ◌∙◌}
use Rattle.std.specs.Prelude.{◌↔◌, IsTrue}
use Rattle.wf_model.specs.Grammar.{Grammar}
use Rattle.wf_model.specs.WellFormed.{IsWellFormed}
use Rattle.wf_model.specs.View.{View}
use Rattle.wf_model.specs.declared.event.Event.{Event}
use Rattle.wf_model.specs.Run.{IsAccepted}
use Rattle.wf_model.specs.Items.{Item, IsMadeOpen}
use Rattle.wf_model.specs.Finishing.{IsFinishing}
use Rattle.label_model.specs.Labels.{Label}
use Rattle.label_model.specs.RunLabels.{HasLabel}
use Rattle.verdict_model.specs.Verdicts.{IsHidden, AreShown, HasBoth}
use Rattle.verdict_model.proofs.Keeping.{visible_shown}
use Rattle.wf_flat.specs.Shown.{is_made_open, are_visible}

module _ (g : Grammar) (u : View) (wf : IsWellFormed g) (e : List Event) (acc : IsAccepted g (2 ^ 24) e) where
  -- the test of what is made open
  open_told : (o : Option (List ℕ)) → IsTrue (is_made_open g u e o) ↔ IsMadeOpen g u g.start e o
  open_told None = ((λ h. tt), (λ h. refl))
  open_told (Some k) = ((λ h. h), (λ h. h))

  -- it passes where the label of an item is not hidden
  shown_open : (t : Item) (l : Label) → HasLabel g e t l → (IsHidden g u l → ⊥) → is_made_open g u e t.maker ≡ true
  shown_open t l h n = (open_told t.maker).1 ((visible_shown g wf u e acc.0 t l h.0).1 n)

  -- and fails where it is
  hidden_shut : (t : Item) (l : Label) → HasLabel g e t l → IsHidden g u l → is_made_open g u e t.maker ≡ false
  hidden_shut t l h hidden = go (is_made_open g u e t.maker) refl
    where
      go : (b : Bool) → is_made_open g u e t.maker ≡ b → is_made_open g u e t.maker ≡ false
      go true q = absurd ((visible_shown g wf u e acc.0 t l h.0).0 ((open_told t.maker).0 q) hidden)
      go false q = q

  module _ (s t : Item) (x y : Label) (first : HasLabel g e s x) (second : HasLabel g e t y) where
    -- the run has both labels, and is finished
    pub both : (more : List Event) → IsFinishing g u g.start e more → HasBoth g u x y e more s t
    both more f = record { run = acc.0; first = first; second = second; finishing = f }

    -- both items are visible where neither label is hidden
    pub both_visible : AreShown g u x y → are_visible g u e s t ≡ true
    both_visible shown = ap (λ b. cond b (is_made_open g u e t.maker) false) (shown_open s x first shown.0) ∙ shown_open t y second shown.1

    -- and not where one is
    pub first_not : IsHidden g u x → are_visible g u e s t ≡ false
    first_not hidden = ap (λ b. cond b (is_made_open g u e t.maker) false) (hidden_shut s x first hidden)

    pub second_not : (IsHidden g u x → ⊥) → IsHidden g u y → are_visible g u e s t ≡ false
    second_not shown hidden = ap (λ b. cond b (is_made_open g u e t.maker) false) (shown_open s x first shown) ∙ hidden_shut t y second hidden
