-- Lists of choices: what is chosen in the first of them, and in one more.
use Rattle.std.proofs.Common.{◌≡◌, ℕ, ◌+◌, ◌<◌, ◌⊎◌, List, length, get_or, take, sym, ap, subst, inl, inr, ⊎_elim}
use Rattle.wf_model.specs.Safe.{IsChosen}
use Rattle.wf_safe.specs.declared.witness.Choice.{Choice}
use Rattle.wf_safe.specs.Witness.{chosen_in}
use Rattle.wf_safe.proofs.Taken.{in_more, in_next}

-- a choice is for this module and of this production
abbrev pub IsFor : Choice → ℕ → ℕ → Type 0
IsFor c m p = (m ≡ c.«module».0) × (p ≡ c.production.0)

pub chosen_more : (cs : List Choice) (k : ℕ) (d : Choice) (m p : ℕ) → k < length cs → IsChosen (chosen_in (take (k + 1) cs)) m p → IsChosen (chosen_in (take k cs)) m p ⊎ IsFor (get_or cs k d) m p
chosen_more cs k d m p h i =
    ⊎_elim (λ q. inl q) (λ e. inr (ap (λ (z : ℕ × ℕ). z.0) e, ap (λ (z : ℕ × ℕ). z.1) e))
    (in_more (λ (c : Choice). (c.«module».0, c.production.0)) (m, p) cs k d h i)

pub chosen_next : (cs : List Choice) (k : ℕ) (d : Choice) (m p : ℕ) → k < length cs → (get_or cs k d).«module».0 ≡ m → (get_or cs k d).production.0 ≡ p → IsChosen (chosen_in cs) m p
chosen_next cs k d m p h a b =
    subst (λ z. IsChosen (chosen_in cs) z p) a (subst (λ z. IsChosen (chosen_in cs) (get_or cs k d).«module».0 z) b (in_next (λ (c : Choice). (c.«module».0, c.production.0)) cs k d h))

-- what is known of a choice is known of the module and the production that it is for
pub known_for : (R : ℕ → ℕ → Type 0) (c : Choice) (m p : ℕ) → IsFor c m p → R c.«module».0 c.production.0 → R m p
known_for R c m p e h = subst (λ z. R z p) (sym e.0) (subst (R c.«module».0) (sym e.1) h)
