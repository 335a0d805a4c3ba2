-- Flags that are set one by one.
use Rattle.std.proofs.Common.{◌≡◌, ℕ, ◌<◌, ◌==◌, ◌||◌, Bool, true, false, List, length, get_or, set, refl, sym, ap, ◌∙◌}
use Rattle.std.proofs.lemmas.Bool.{eqb-true, eqb-false}
use Rattle.std.proofs.lemmas.List.{get_or-set_same, get_or-set_other}
use Rattle.wf_model.proofs.Tests.{or_nothing}
use Rattle.wf_view.proofs.Passing.{or_true}

-- one flag more is set
pub set_is : (marks : List Bool) (k m : ℕ) → k < length marks → get_or (set marks k true) m false ≡ get_or marks m false || (k == m)
set_is marks k m inside = by (k == m) refl
  where
    by : (b : Bool) → (k == m) ≡ b → get_or (set marks k true) m false ≡ get_or marks m false || (k == m)
    by true e =
        ap (λ n. get_or (set marks k true) n false) (sym (eqb-true k m e)) ∙ (get_or-set_same marks k true false inside ∙ (or_true (get_or marks m false) ∙ ap (λ b. get_or marks m false || b) (sym e)))
    by false e = get_or-set_other marks k m true false (λ d. eqb-false k m e (sym d)) ∙ (or_nothing (get_or marks m false) ∙ ap (λ b. get_or marks m false || b) (sym e))
