-- The law of the faults of a run.
use Rattle.std.specs.Prelude.{◌≡◌, ◌↔◌, ℕ, List, Some, None}
use Rattle.wf_model.specs.Grammar.{Grammar}
use Rattle.wf_model.specs.declared.event.Event.{Event}
use Rattle.wf_model.specs.declared.event.RunFault.{RunFault}
use Rattle.wf_model.specs.Run.{IsAccepted}
use Rattle.wf_model.specs.Faults.{fault_of}
use Rattle.wf_model.specs.Conditions.{conditions_of, AllHold, FirstFailing}

-- an event has no fault exactly where all of its conditions hold, and a fault exactly where the first condition that does not hold has it
pub record IsToldByConditions (g : Grammar) (most : ℕ) (before : List Event) (e : Event) : Type 0 where
  pub taken : (fault_of g most before e ≡ None) ↔ AllHold (conditions_of g most before e)
  pub refused : (f : RunFault) → (fault_of g most before e ≡ Some f) ↔ FirstFailing f (conditions_of g most before e)

-- so is each event after an accepted run
abbrev pub ConditionsLaw : Type 0
ConditionsLaw = (g : Grammar) (most : ℕ) (before : List Event) (e : Event) → IsAccepted g most before → IsToldByConditions g most before e
