-- The faults of an expand event in two parts: those that are tried first, and those of the names of new instances.
use Rattle.std.specs.Prelude.{◌≡◌, ℕ, ◌+◌, nat_lt, List, [], ◌∷◌, length, Option, Some}
use Rattle.wf_model.specs.Grammar.{Grammar}
use Rattle.wf_model.specs.declared.event.Event.{Event}
use Rattle.wf_model.specs.declared.event.Event.TheVariants.{Expand}
use Rattle.wf_model.specs.declared.event.RunFault.{RunFault}
use Rattle.wf_model.specs.declared.event.RunFault.TheVariants.{NameTwice, TooManyInstances}
use Rattle.wf_model.specs.Run.{made, names_of, IsRun}
use Rattle.wf_model.specs.Faults.{some_twice, first_of, fault_of}
use Rattle.run_faults.specs.declared.expand.Found.{Found}
use Rattle.run_faults.specs.Standing.{IsFound}

-- why names cannot be those of new instances: one is taken, or stands twice; or there would be more instances than the limit
abbrev pub names_fault : ℕ → List (List ℕ) → List (List ℕ) → Option RunFault
names_fault most taken names = first_of ((some_twice taken names, NameTwice) ∷ (nat_lt most (length taken + length names), TooManyInstances) ∷ [])

-- what is so of a limit, the events of a run and a name, whenever there are so many instances and this was found of the name
abbrev pub InEachRun : Grammar → ℕ → Option Found → (ℕ → List Event → List ℕ → Type 0) → Type 0
InEachRun g count found P = (most : ℕ) (events : List Event) (name : List ℕ) → IsRun g g.start events → count ≡ length (names_of (made g g.start events)) → IsFound g events name found → P most events name

-- an expand event by this production with these names has this fault, whatever the limit
abbrev pub HasFault : Grammar → ℕ → Option Found → ℕ → List (List ℕ) → RunFault → Type 0
HasFault g count found p names f = InEachRun g count found (λ most events name. fault_of g most events (Expand name p names) ≡ Some f)

-- it has the fault of its names, or none where they have none
abbrev pub IsLeftToNames : Grammar → ℕ → Option Found → ℕ → List (List ℕ) → Type 0
IsLeftToNames g count found p names = InEachRun g count found (λ most events name. fault_of g most events (Expand name p names) ≡ names_fault most (names_of (made g g.start events)) names)
