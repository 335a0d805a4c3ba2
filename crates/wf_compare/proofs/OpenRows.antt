-- The rows of the steps of all expanded modules.
use Rattle.std.proofs.Common.{◌≡◌, ℕ, ◌<◌, ◌≤◌, ◌⊎◌, cond, List, [], ◌∷◌, map, length, get_or, Vec, Global, sym, ap, ◌∙◌, subst, ⊎_elim, arith, zero-add}
use Rattle.std.proofs.lemmas.Bool.{cases_Bool}
use Rattle.std.proofs.lemmas.List.{length-map, get_or_past}
use Rattle.wf_model.specs.declared.body.Step.{Step as StepHeld}
use Rattle.wf_model.specs.Lists.{IsIn, numbers_from}
use Rattle.wf_model.specs.Steps.{step_of}
use Rattle.wf_model.specs.Grammar.{Grammar, body_of}
use Rattle.wf_model.specs.WellFormed.{IsWellFormed}
use Rattle.wf_model.specs.View.{View, expands, IsViewOf}
use Rattle.wf_model.specs.Reach.{target_of}
use Rattle.wf_model.specs.OpenRoutes.{IsOpenRoute}
use Rattle.wf_model.proofs.Composites.{composite_below}
use Rattle.wf_model.proofs.NumberLists.{length-numbers, get_numbered}
use Rattle.wf_model.proofs.Lists.{in_map_from}
use Rattle.wf_graph.specs.Routes.{AreInRange, IsFirstShortest, IsRoute}
use Rattle.wf_graph.proofs.Routes.{first_alike}
use Rattle.wf_compare.specs.declared.steps.Leading.{Leading}
use Rattle.wf_compare.specs.Steps.{leading_at, open_leadings, leadings_of, rows_in, row_of, targets_of, targets_in, AreOpenRows, AreFirstSteps}
use Rattle.wf_compare.proofs.Leadings.{leading_from}
use Rattle.wf_compare.proofs.StepRoutes.{led}

module _ (g : Grammar) (c : View) (rows : List (Vec Leading Global)) (formed : IsWellFormed g) (view : IsViewOf g c) (are : AreOpenRows g c rows) where
  pub row_each : length rows ≡ length g.modules
  row_each = sym (length-map rows (λ (r : Vec Leading Global). r.items)) ∙ (ap (λ (l : List (List Leading)). length l) are ∙ (length-map (numbers_from 0 (length g.modules)) (open_leadings g c) ∙ length-numbers 0 (length g.modules)))

  shut_past : (a : ℕ) → length g.modules ≤ a → open_leadings g c a ≡ []
  shut_past a h = ⊎_elim
      (λ t. absurd (let l = composite_below g formed a (view.expanded a t) in omega arith))
      (λ f. ap (λ b. cond b (leadings_of g a) []) f)
      (cases_Bool (expands c a))

  pub row_is : (a : ℕ) → row_of rows a ≡ open_leadings g c a
  row_is a = ⊎_elim
      (λ (h : a < length g.modules). ap (λ (l : List (List Leading)). get_or l a []) are ∙ (get_numbered (open_leadings g c) 0 (length g.modules) a [] h ∙ ap (open_leadings g c) (zero-add a)))
      (λ (h : length g.modules ≤ a). get_or_past (rows_in rows) a [] (let e = length-map rows (λ (r : Vec Leading Global). r.items) in let n = row_each in omega arith) ∙ sym (shut_past a h))
      cases
    where
      cases : (a < length g.modules) ⊎ (length g.modules ≤ a)
      cases = grind arith

  pub targets_are : (a : ℕ) → targets_in rows a ≡ led g c a
  targets_are a = ap targets_of (row_is a)

  led_below : (a w : ℕ) → IsIn w (led g c a) → w < length g.modules
  led_below a w i = ⊎_elim
      (λ t.
      let r = in_map_from (λ (e : Leading). e.target.0) w (open_leadings g c a) i in
      let s = leading_from g a r.0 (subst (IsIn r.0) (ap (λ b. cond b (leadings_of g a) []) t) r.1) in
      let is : w ≡ get_or (body_of g s.0) s.1 0 = r.2 ∙ ap (λ (e : Leading). e.target.0) s.4 in
      subst (λ z. z < length g.modules) (sym is) ((formed.bodies s.0 s.2.0).modules (get_or (body_of g s.0) s.1 0)
      (Rattle.wf_model.proofs.Positions.in_there (body_of g s.0) s.1 (get_or (body_of g s.0) s.1 0) s.3 (Rattle.std.proofs.lemmas.List.get_or_default (body_of g s.0) s.1 0 (get_or (body_of g s.0) s.1 0) s.3))))
      (λ f. absurd (subst (λ l. IsIn w (targets_of l)) (ap (λ b. cond b (leadings_of g a) []) f) i))
      (cases_Bool (expands c a))

  pub rows_in_range : AreInRange (targets_in rows) (length rows)
  rows_in_range v w i = subst (λ n. w < n) (sym row_each) (led_below v w (subst (IsIn w) (targets_are v) i))

  pub shortest_is : (a b : ℕ) (ws : List ℕ) → IsFirstShortest (targets_in rows) a b ws → IsFirstShortest (led g c) a b ws
  shortest_is a b ws f = first_alike (targets_in rows) (led g c) targets_are a b ws f

  pub steps_are : (a : ℕ) (ws : List ℕ) (ps : List StepHeld) → AreFirstSteps (row_of rows) a ws ps → AreFirstSteps (open_leadings g c) a ws ps
  steps_are a [] [] f = tt
  steps_are a [] (p ∷ ps) f = absurd f
  steps_are a (w ∷ ws) [] f = absurd f
  steps_are a (w ∷ ws) (p ∷ ps) f = (subst (λ l. Rattle.wf_compare.specs.Steps.IsFirstStep l w p) (row_is a) f.0, steps_are w ws ps f.1)

  pub route_is : (a b : ℕ) (ws : List ℕ) → IsRoute (led g c) a ws b → IsRoute (targets_in rows) a ws b
  route_is a b ws r = Rattle.wf_graph.proofs.Routes.route_alike (led g c) (targets_in rows) (λ v. sym (targets_are v)) a b ws r

-- the steps of an open route are there
pub record IsThere (g : Grammar) (s : StepHeld) : Type 0 where
  pub production : s.production.0 < length g.productions
  pub position : s.position.0 < length (body_of g s.production.0)

pub all_there : (g : Grammar) (c : View) (a : ℕ) (ps : List StepHeld) → IsOpenRoute g c a (map step_of ps) → (s : StepHeld) → IsIn s ps → IsThere g s
all_there g c a [] r s i = absurd i
all_there g c a (p ∷ ps) r s i = ⊎_elim
    (λ (e : s ≡ p). subst (IsThere g) (sym e) (record { production = r.0.in_range; position = r.0.position }))
    (λ j. all_there g c (target_of g (step_of p)) ps r.2 s j)
    i
