-- The ten conditions of an accepted run, each by name. An event is taken where all of its conditions hold, and the first that does not hold tells the fault.
use Rattle.std.specs.Prelude.{◌≡◌, ◌≢◌, ℕ, ◌+◌, ◌<◌, ◌≤◌, ◌⊎◌, List, [], ◌∷◌, length, None}
use Rattle.wf_model.specs.Lists.{IsIn, AllDiffer}
use Rattle.wf_model.specs.Grammar.{Grammar, head_of, body_of}
use Rattle.wf_model.specs.WellFormed.{IsShortName}
use Rattle.wf_model.specs.declared.event.Event.{Event}
use Rattle.wf_model.specs.declared.event.Event.TheVariants.{Start, Expand}
use Rattle.wf_model.specs.declared.event.RunFault.{RunFault}
use Rattle.wf_model.specs.declared.event.RunFault.TheVariants.{NotStarted, StartedTwice, UnknownInstance, UnknownProduction, WrongHead, AlreadyExpanded, PositionsWrong, NameBad, NameTwice, TooManyInstances}
use Rattle.wf_model.specs.Run.{made, names_of, expanded_by}

-- 1. the run has been started, where an instance is to be expanded
abbrev pub HasStarted : List Event → Type 0
HasStarted before = before ≢ []

-- 2. the run has not been started, where it is to be started
abbrev pub HasNotStarted : List Event → Type 0
HasNotStarted before = before ≡ []

-- 3. an instance of this name is there
abbrev pub IsThere : Grammar → List Event → List ℕ → Type 0
IsThere g before i = IsIn i (names_of (made g g.start before))

-- 4. the number is that of a production
abbrev pub IsProduction : Grammar → ℕ → Type 0
IsProduction g p = p < length g.productions

-- 5. the head of the production is the module of the instance
abbrev pub FitsModule : Grammar → List Event → List ℕ → ℕ → Type 0
FitsModule g before i p = IsIn (record { name = i; module_no = head_of g p }) (made g g.start before)

-- 6. the instance has not been expanded
abbrev pub IsUnexpanded : List Event → List ℕ → Type 0
IsUnexpanded before i = expanded_by before i ≡ None

-- 7. there is one name for each position of the body
abbrev pub IsOneEach : Grammar → ℕ → List (List ℕ) → Type 0
IsOneEach g p names = length names ≡ length (body_of g p)

-- 8. each is a name: 1 to 64 letters, digits, `_` and `-`
abbrev pub AreNames : List (List ℕ) → Type 0
AreNames names = (n : List ℕ) → IsIn n names → IsShortName n

-- 9. the names are new: none stands twice, and none is that of an instance
abbrev pub AreNew : Grammar → List Event → List (List ℕ) → Type 0
AreNew g before names = AllDiffer names × ((n : List ℕ) → IsIn n names → ¬ IsIn n (names_of (made g g.start before)))

-- 10. with so many new ones the instances are within the limit
abbrev pub IsWithin : Grammar → ℕ → List Event → ℕ → Type 0
IsWithin g most before new = length (made g g.start before) + new ≤ most

-- a condition, and the fault that is told where it does not hold
pub record Condition : Type 1 where
  pub holds : Type 0
  pub fault : RunFault

-- the conditions of an event after a run from the start module, in the order of trial
abbrev pub conditions_of : Grammar → ℕ → List Event → Event → List Condition
conditions_of g most before (Start r) =
    record { holds = HasNotStarted before; fault = StartedTwice } ∷
    record { holds = IsShortName r; fault = NameBad } ∷
    record { holds = IsWithin g most before 1; fault = TooManyInstances } ∷ []
conditions_of g most before (Expand i p names) =
    record { holds = HasStarted before; fault = NotStarted } ∷
    record { holds = IsThere g before i; fault = UnknownInstance } ∷
    record { holds = IsProduction g p; fault = UnknownProduction } ∷
    record { holds = FitsModule g before i p; fault = WrongHead } ∷
    record { holds = IsUnexpanded before i; fault = AlreadyExpanded } ∷
    record { holds = IsOneEach g p names; fault = PositionsWrong } ∷
    record { holds = AreNames names; fault = NameBad } ∷
    record { holds = AreNew g before names; fault = NameTwice } ∷
    record { holds = IsWithin g most before (length names); fault = TooManyInstances } ∷ []

-- each of them holds
abbrev pub AllHold : List Condition → Type 0
AllHold [] = Unit {0}
AllHold (c ∷ cs) = c.holds × AllHold cs

-- the first that does not hold has this fault
abbrev pub FirstFailing : RunFault → List Condition → Type 0
FirstFailing f [] = ⊥
FirstFailing f (c ∷ cs) = ((¬ c.holds) × (f ≡ c.fault)) ⊎ (c.holds × FirstFailing f cs)
