-- The rows of modules that are seen and not expanded, one module after another.
use Rattle.std.proofs.Common.{◌≡◌, ℕ, ◌+◌, ◌<◌, false, List, [], length, get_or, set, length-set, Option, Some, sym, ◌∙◌, subst, inl, inr, arith}
use Rattle.std.proofs.lemmas.Bool.{cases_eq}
use Rattle.wf_model.specs.Grammar.{Grammar}
use Rattle.wf_model.specs.View.{View, expands, IsSeenModule}
use Rattle.wf_view.specs.Held.{HeldView, IsHeldFor, AreShownRows}
use Rattle.wf_safe.specs.Full.{AreFit}
use Rattle.wf_safe.specs.Inducing.{HasShown, AreShownBelow}
use Rattle.wf_safe.proofs.SetRows.{fit_set, pairs_set, rows_set, shown_stays}
use Rattle.wf_safe.proofs.BodyLinks.{has_is}

pub none_shown : (g : Grammar) (u : View) (rows : List (Option (List ℕ))) → length rows ≡ length g.modules → AreFit g rows → AreShownBelow g u 0 rows
none_shown g u rows e fit = record { one_each = e; fit = fit; shown = λ m l seen x. absurd (omega arith) }

-- a module that is not seen, or is expanded, is passed by
pub not_shown : (g : Grammar) (u : View) (k : ℕ) (rows : List (Option (List ℕ))) → AreShownBelow g u k rows → (IsSeenModule g u k → expands u k ≡ false → ⊥) → AreShownBelow g u (k + 1) rows
not_shown g u k rows b not = record {
  one_each = b.one_each;
  fit = b.fit;
  shown = λ m l seen x. elim (cases_eq m k) [
    | inl e ↦ absurd (not (subst (IsSeenModule g u) e seen) (subst (λ z. expands u z ≡ false) e x))
    | inr e ↦ b.shown m (omega arith) seen x
  ];
}

-- the rows that the view shows have the pairs that it shows
rows_shown : (g : Grammar) (u : View) (k : ℕ) (rows : List (Option (List ℕ))) (new : List ℕ) → k < length rows → AreShownRows g u k new → HasShown g u (set rows k (Some new)) k
rows_shown g u k rows new l h = record {
  held = rows_set g rows new k l h.one_each h.no_more;
  pairs = λ i o hi ho.
      let e = pairs_set rows new k i o l ∙ (has_is (get_or new i 0) o ∙ h.bits i o hi ho) in (
        (λ t. sym e ∙ t),
        (λ t. e ∙ t),
      );
}

pub shown_more : (g : Grammar) (v : HeldView) (k : ℕ) (rows : List (Option (List ℕ))) (new : List ℕ) → IsHeldFor g v → k < length g.modules → expands v.core k ≡ false → new ≡ get_or v.rows k [] → AreShownBelow g v.core k rows → AreShownBelow g v.core (k + 1) (set rows k (Some new))
shown_more g v k rows new held l x e b = record {
  one_each = length-set rows k (Some new) ∙ b.one_each;
  fit = fit_set g rows new k (rows_shown g v.core k rows new (subst (λ n. k < n) (sym b.one_each) l) (subst (AreShownRows g v.core k) (sym e) (held.rows k l x))).held b.fit;
  shown = λ m lm seen xm. elim (cases_eq m k) [
    | inl q ↦ subst (HasShown g v.core (set rows k (Some new))) (sym q) (rows_shown g v.core k rows new (subst (λ n. k < n) (sym b.one_each) l) (subst (AreShownRows g v.core k) (sym e) (held.rows k l x)))
    | inr q ↦ shown_stays g v.core rows (Some new) k m q (b.shown m (omega arith) seen xm)
  ];
}
