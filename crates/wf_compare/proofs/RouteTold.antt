-- The route that a search of the rows of steps tells.
use Rattle.std.proofs.Common.{◌≡◌, ℕ, ◌<◌, ◌≤◌, List, [], ◌∷◌, map, length, Vec, Global, sym, subst, arith}
use Rattle.std.proofs.lemmas.List.{length-map}
use Rattle.wf_model.specs.declared.body.Step.{Step as StepHeld}
use Rattle.wf_model.specs.Steps.{step_of}
use Rattle.wf_model.specs.Grammar.{Grammar}
use Rattle.wf_model.specs.WellFormed.{IsWellFormed}
use Rattle.wf_model.specs.Reach.{target_of}
use Rattle.wf_model.specs.View.{View, IsSeenModule, IsViewOf}
use Rattle.wf_graph.specs.Routes.{IsRoute, AreInRange, IsFirstShortest}
use Rattle.wf_safe.proofs.SeenBelow.{seen_below}
use Rattle.compare_model.specs.Routes.{IsFirstShortestRoute}
use Rattle.compare_model.proofs.FirstRoutes.{seen_route}
use Rattle.compare_model.proofs.RouteLaws.{first_route_law}
use Rattle.wf_compare.specs.declared.steps.Leading.{Leading}
use Rattle.wf_compare.specs.Steps.{row_of, targets_in, AreOpenRows, AreFirstSteps}
use Rattle.wf_compare.proofs.StepRoutes.{led, steps_route, is_first_route}
use Rattle.wf_compare.proofs.OpenRows.{row_each, rows_in_range, shortest_is, steps_are, route_is}

-- no route of at least one step leads from a to b
abbrev pub Searched : List (Vec Leading Global) → ℕ → ℕ → Type 0
Searched rows a b = (ws : List ℕ) → 0 < length ws → IsRoute (targets_in rows) a ws b → ⊥

module _ (g : Grammar) (c : View) (rows : List (Vec Leading Global)) (formed : IsWellFormed g) (view : IsViewOf g c) (are : AreOpenRows g c rows) where
  pub rows_fit : AreInRange (targets_in rows) (length rows)
  rows_fit = rows_in_range g c rows formed view are

  pub start_there : (from : ℕ) → from ≡ g.start → from < length rows
  start_there from e = let n = row_each g c rows formed view are in let l = formed.start in omega arith

  pub end_there : (m : ℕ) → IsSeenModule g c m → (end : ℕ) → end ≡ m → end < length rows
  end_there m seen end e = let n = row_each g c rows formed view are in let l = seen_below g c m formed seen in omega arith

  -- to a seen module that is not the start module a route leads
  pub must_be : (m from end : ℕ) → IsSeenModule g c m → (g.start ≡ m → ⊥) → from ≡ g.start → end ≡ m → ((ws : List ℕ) → 0 < length ws → IsRoute (targets_in rows) from ws end → ⊥) → ⊥
  must_be m from end seen other f e none =
      let way = seen_route g c m seen in
      go (map (target_of g) way.0) (subst (IsRoute (led g c) g.start (map (target_of g) way.0)) way.1.1 (steps_route g c g.start way.0 way.1.0))
    where
      go : (ws : List ℕ) → IsRoute (led g c) g.start ws m → ⊥
      go [] r = other r
      go (w ∷ ws) r = none (w ∷ ws) (omega arith) (subst (λ z. IsRoute (targets_in rows) from (w ∷ ws) z) (sym e) (subst (λ z. IsRoute (targets_in rows) z (w ∷ ws) m) (sym f) (route_is g c rows formed view are g.start m (w ∷ ws) r)))

  pub route_told : (m from end : ℕ) (ws : List ℕ) (ps : List StepHeld) → (g.start ≡ m → ⊥) → from ≡ g.start → end ≡ m → IsFirstShortest (targets_in rows) from end ws → AreFirstSteps (row_of rows) from ws ps → IsFirstShortestRoute g c m (map step_of ps)
  route_told m from end ws ps other f e short first =
      is_first_route g c m ws ps other
      (shortest_is g c rows formed view are g.start m ws (subst (λ z. IsFirstShortest (targets_in rows) z m ws) f (subst (λ z. IsFirstShortest (targets_in rows) from z ws) e short)))
      (steps_are g c rows formed view are g.start ws ps (subst (λ z. AreFirstSteps (row_of rows) z ws ps) f first))

  -- there are fewer steps than modules
  pub few_told : (m : ℕ) (ps : List StepHeld) → IsSeenModule g c m → IsFirstShortestRoute g c m (map step_of ps) → length ps ≤ 1024
  few_told m ps seen first =
      let short = (first_route_law g c formed m seen).short (map step_of ps) first in
      let n = length-map ps step_of in
      let few = formed.few_modules in
      omega arith
