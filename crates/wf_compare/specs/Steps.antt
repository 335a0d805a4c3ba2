-- The steps of the modules that a view expands, and those along a route of modules.
use Rattle.std.specs.Prelude.{◌≡◌, ◌==◌, ℕ, Bool, cond, List, [], ◌∷◌, map, flat_map, length, get_or, find, Some, Vec}
use Rattle.std.specs.declared.alloc.Global.{Global}
use Rattle.wf_model.specs.declared.body.Step.{Step as StepHeld}
use Rattle.wf_model.specs.Lists.{numbers_from}
use Rattle.wf_model.specs.Grammar.{Grammar, body_of}
use Rattle.wf_model.specs.View.{View, expands}
use Rattle.wf_spec.specs.Tables.{productions_of}
use Rattle.wf_compare.specs.declared.steps.Leading.{Leading}

-- the step to a position of a production, with the module that stands there
abbrev pub leading_at : Grammar → ℕ → ℕ → Leading
leading_at g p k = record {
  step = record { production = record { 0 = p }; position = record { 0 = k } };
  target = record { 0 = get_or (body_of g p) k 0 };
}

-- the steps of a production, by position
abbrev pub leadings_by : Grammar → ℕ → List Leading
leadings_by g p = map (leading_at g p) (numbers_from 0 (length (body_of g p)))

-- the steps of a module, by production and then by position
abbrev pub leadings_of : Grammar → ℕ → List Leading
leadings_of g m = flat_map (leadings_by g) (productions_of g m)

-- those of a module that the view expands; none of another
abbrev pub open_leadings : Grammar → View → ℕ → List Leading
open_leadings g c m = cond (expands c m) (leadings_of g m) []

-- rows, as lists
abbrev pub rows_in : List (Vec Leading Global) → List (List Leading)
rows_in = map (λ r. r.items)

-- each module has a row: its steps, if the view expands it
abbrev pub AreOpenRows : Grammar → View → List (Vec Leading Global) → Type 0
AreOpenRows g c rows = rows_in rows ≡ map (open_leadings g c) (numbers_from 0 (length g.modules))

-- the row of a module, and none past the end
abbrev pub row_of : List (Vec Leading Global) → ℕ → List Leading
row_of rows m = get_or (rows_in rows) m []

-- the modules to which steps lead, in order
abbrev pub targets_of : List Leading → List ℕ
targets_of = map (λ (e : Leading). e.target.0)

-- those to which the steps of a row lead
abbrev pub targets_in : List (Vec Leading Global) → ℕ → List ℕ
targets_in rows m = targets_of (row_of rows m)

-- a step leads to this module
abbrev pub leads_to : ℕ → Leading → Bool
leads_to m e = e.target.0 == m

-- the first step of a row that leads to the module
pub record IsFirstStep (row : List Leading) (to : ℕ) (s : StepHeld) : Type 0 where
  pub leading : Leading
  pub found : find (leads_to to) row ≡ Some leading
  pub step_is : leading.step ≡ s

-- the first steps along modules that follow one another behind a, where each module has a row of steps
abbrev pub AreFirstSteps : (ℕ → List Leading) → ℕ → List ℕ → List StepHeld → Type 0
AreFirstSteps row a [] [] = Unit {0}
AreFirstSteps row a [] (s ∷ steps) = ⊥
AreFirstSteps row a (w ∷ ws) [] = ⊥
AreFirstSteps row a (w ∷ ws) (s ∷ steps) = IsFirstStep (row a) w s × AreFirstSteps row w ws steps
