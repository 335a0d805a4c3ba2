-- The first step of a row to a module, and the first steps along a route, found one by one.
use Rattle.std.proofs.Common.{◌≡◌, ℕ, zero, suc, ◌<◌, ◌==◌, Bool, true, cond, List, [], ◌∷◌, ◌++◌, map, length, get_or, Some, Vec, Global, refl, sym, ap, ◌∙◌, subst, inl, inr, ⊎_elim, arith, append_assoc, append-nil}
use Rattle.std.specs.Prelude.{find}
use Rattle.std.proofs.lemmas.Bool.Decides.{nat_tests}
use Rattle.wf_model.specs.declared.body.Step.{Step as StepHeld}
use Rattle.wf_model.specs.Lists.{IsIn}
use Rattle.wf_model.proofs.Lists.{in_map_from}
use Rattle.wf_compare.specs.declared.steps.Leading.{Leading}
use Rattle.wf_compare.specs.Steps.{leads_to, row_of, targets_in, IsFirstStep, AreFirstSteps}

-- a row has a step to the module
abbrev pub HasStepTo : List Leading → ℕ → Type 0
HasStepTo row to = (e : Leading) × IsIn e row × (e.target.0 ≡ to)

hit : (x : Leading) (rest : List Leading) (to : ℕ) → x.target.0 ≡ to → find (leads_to to) (x ∷ rest) ≡ Some x
hit x rest to e = ap (λ b. cond b (Some x) (find (leads_to to) rest)) test
  where
    test : leads_to to x ≡ true
    test = grind (arith, nat_tests)

miss : (x : Leading) (rest : List Leading) (to : ℕ) → (x.target.0 ≡ to → ⊥) → find (leads_to to) (x ∷ rest) ≡ find (leads_to to) rest
miss x rest to n = ap (λ b. cond b (Some x) (find (leads_to to) rest)) test
  where
    test : leads_to to x ≡ Rattle.std.proofs.Common.false
    test = grind (arith, nat_tests)

pub found_here : (to : ℕ) (row left rest : List Leading) (x : Leading) → left ≡ x ∷ rest → find (leads_to to) left ≡ find (leads_to to) row → x.target.0 ≡ to → IsFirstStep row to x.step
found_here to row left rest x e same t = record { leading = x; found = sym same ∙ (ap (find (leads_to to)) e ∙ hit x rest to t); step_is = refl }

pub found_later : (to : ℕ) (row left rest : List Leading) (x : Leading) → left ≡ x ∷ rest → find (leads_to to) left ≡ find (leads_to to) row → (x.target.0 ≡ to → ⊥) → find (leads_to to) rest ≡ find (leads_to to) row
found_later to row left rest x e same n = sym (miss x rest to n) ∙ (sym (ap (find (leads_to to)) e) ∙ same)

pub there_later : (to : ℕ) (left rest : List Leading) (x : Leading) → left ≡ x ∷ rest → (x.target.0 ≡ to → ⊥) → HasStepTo left to → HasStepTo rest to
there_later to left rest x e n h = ⊎_elim
    (λ (d : h.0 ≡ x). absurd (n (sym (ap (λ (z : Leading). z.target.0) d) ∙ h.2)))
    (λ i. (h.0, i, h.2))
    (subst (IsIn h.0) e h.1)

-- a module with a step is one that has a row
pub led_below : (rows : List (Vec Leading Global)) (a w : ℕ) → IsIn w (targets_in rows a) → a < length rows
led_below [] a w i = absurd i
led_below (r ∷ rows) zero w i = omega arith
led_below (r ∷ rows) (suc a) w i = let l = led_below rows a w i in omega arith

-- its row is the one that is read
pub row_read : (rows : List (Vec Leading Global)) (a : ℕ) (row : Vec Leading Global) → a < length rows → row ≡ get_or rows a row → row_of rows a ≡ row.items
row_read [] a row h e = absurd (omega arith)
row_read (r ∷ rows) zero row h e = ap (λ (v : Vec Leading Global). v.items) (sym e)
row_read (r ∷ rows) (suc a) row h e = let l : a < length rows = omega arith in row_read rows a row l e

pub step_there : (rows : List (Vec Leading Global)) (a w : ℕ) (row : List Leading) → row_of rows a ≡ row → IsIn w (targets_in rows a) → HasStepTo row w
step_there rows a w row e i =
    let r = in_map_from (λ (z : Leading). z.target.0) w (row_of rows a) i in
    (r.0, subst (IsIn r.0) e r.1, sym r.2)

-- the first step of what is left of a route goes behind the steps so far
pub step_more : (row : ℕ → List Leading) (from at w : ℕ) (route left rest : List ℕ) (steps more : List StepHeld) (here : List Leading) (s : StepHeld) → left ≡ w ∷ rest → row at ≡ here → IsFirstStep here w s → more ≡ steps ++ s ∷ []
    → ((others : List StepHeld) → AreFirstSteps row at left others → AreFirstSteps row from route (steps ++ others))
    → (others : List StepHeld) → AreFirstSteps row w rest others → AreFirstSteps row from route (more ++ others)
step_more row from at w route left rest steps more here s e r f is onward others h =
    subst (AreFirstSteps row from route) (sym (ap (λ l. l ++ others) is ∙ append_assoc steps (s ∷ []) others))
    (onward (s ∷ others) (subst (λ l. AreFirstSteps row at l (s ∷ others)) (sym e) (subst (λ l. IsFirstStep l w s) (sym r) f, h)))

pub steps_all : (row : ℕ → List Leading) (from at : ℕ) (route left : List ℕ) (steps : List StepHeld) → left ≡ [] → ((others : List StepHeld) → AreFirstSteps row at left others → AreFirstSteps row from route (steps ++ others)) → AreFirstSteps row from route steps
steps_all row from at route left steps e onward = subst (AreFirstSteps row from route) (append-nil steps) (onward [] (subst (λ l. AreFirstSteps row at l []) (sym e) tt))
