-- Good loops, module by module.
use Rattle.std.specs.Prelude.{◌≡◌, ℕ, ◌<◌, List, length, Option, Some}
use Rattle.wf_model.specs.Grammar.{Grammar, IsComposite}
use Rattle.wf_model.specs.Reach.{Step, target_of}
use Rattle.wf_model.specs.Linear.{IsStepOf, Continues, IsOnCycle}
use Rattle.package_model.specs.Translating.{Loops}
use Rattle.wf_loops.specs.Looped.{loop_in}

-- the loop steps in a table are steps of their modules, of which each has a place
pub record AreStepsOfModules (g : Grammar) (steps : List (Option Step)) : Type 0 where
  pub one_each : length steps ≡ length g.modules
  pub each : (m : ℕ) (s : Step) → loop_in steps m ≡ Some s → IsStepOf g m s

-- loop steps that lead here from a module on no cycle end here, or lead on to a module on no cycle: the module is atomic, or has a loop step and is on no cycle
abbrev pub IsGoodTarget : Grammar → Loops → ℕ → Type 0
IsGoodTarget g loop t = IsComposite g t → ((s : Step) × (loop t ≡ Some s)) × (IsOnCycle g t → ⊥)

-- a module on a cycle has its continuing step as its loop step, and that of a module on no cycle leads to a good target
pub record IsGoodAt (g : Grammar) (loop : Loops) (m : ℕ) : Type 0 where
  pub continues : IsOnCycle g m → (s : Step) × (loop m ≡ Some s) × Continues g m s
  pub leads : (IsOnCycle g m → ⊥) → (s : Step) → loop m ≡ Some s → IsGoodTarget g loop (target_of g s)

-- so it is at each module
abbrev pub AreGoodSteps : Grammar → Loops → Type 0
AreGoodSteps g loop = (m : ℕ) → m < length g.modules → IsGoodAt g loop m
