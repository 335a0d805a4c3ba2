-- The continuing steps of modules, in order, and the one of each.
use Rattle.std.specs.Prelude.{◌≡◌, ◌≢◌, ℕ, ◌<◌, Bool, false, List, [], map, flat_map, length, get_or, Option, None, Some}
use Rattle.std.specs.List.{filter}
use Rattle.wf_model.specs.declared.body.Step.{Step as StepHeld}
use Rattle.wf_model.specs.Lists.{numbers_from}
use Rattle.wf_model.specs.Grammar.{Grammar, body_of}
use Rattle.wf_model.specs.Reach.{Step, target_of}
use Rattle.wf_model.specs.Linear.{Continues, IsOnCycle}
use Rattle.wf_spec.specs.Tables.{productions_of}
use Rattle.wf_recur.specs.declared.fault.RecurFault.{RecurFault}
use Rattle.wf_recur.specs.declared.fault.RecurFault.TheVariants.{TwoLoops, NoMemory}
use Rattle.wf_recur.specs.Cycles.{step_of}
use Rattle.wf_recur.specs.Loops.{IsBefore}

-- the steps to the first n positions of a production
abbrev pub steps_to : ℕ → ℕ → List Step
steps_to p n = map (λ k. record { production = p; position = k }) (numbers_from 0 n)

-- what the step leads to is marked as deriving the module
abbrev pub leads_back : Grammar → List (List Bool) → ℕ → Step → Bool
leads_back g rows m s = get_or (get_or rows (target_of g s) []) m false

-- the steps of a production that lead back
abbrev pub back_steps : Grammar → List (List Bool) → ℕ → ℕ → List Step
back_steps g rows m p = filter (leads_back g rows m) (steps_to p (length (body_of g p)))

-- the steps of a module that lead back, by production, and then by position
abbrev pub all_back_steps : Grammar → List (List Bool) → ℕ → List Step
all_back_steps g rows m = flat_map (back_steps g rows m) (productions_of g m)

-- what is told of a module is its one continuing step, or that it has none
abbrev pub TellsStep : Grammar → ℕ → Option StepHeld → Type 0
TellsStep g m None = ¬ IsOnCycle g m
TellsStep g m (Some s) = Continues g m (step_of s) × ((t : Step) → Continues g m t → t ≡ step_of s)

-- it is told of each module
pub record AreOnlySteps (g : Grammar) (steps : List (Option StepHeld)) : Type 0 where
  pub one_each : length steps ≡ length g.modules
  pub told : (m : ℕ) → m < length g.modules → TellsStep g m (get_or steps m None)

-- the two least continuing steps of a module
pub record AreTwoLeast (g : Grammar) (m : ℕ) (first second : Step) : Type 0 where
  pub first_continues : Continues g m first
  pub second_continues : Continues g m second
  pub in_order : IsBefore first second
  pub first_least : (s : Step) → Continues g m s → s ≢ first → IsBefore first s
  pub second_least : (s : Step) → Continues g m s → s ≢ first → s ≢ second → IsBefore second s

-- the fault of a module with two continuing steps
abbrev pub IsFaultAt : Grammar → ℕ → RecurFault → Type 0
IsFaultAt g m (TwoLoops k s t) = (k.0 ≡ m) × AreTwoLeast g m (step_of s) (step_of t)
IsFaultAt g m NoMemory = ⊥
