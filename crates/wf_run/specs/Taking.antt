-- What a run makes of an event, whatever the events are that it is the run of.
use Rattle.std.specs.Prelude.{◌≡◌, ◌⊎◌, List, [], ◌∷◌, ◌++◌, Some, None}
use Rattle.wf_model.specs.declared.event.Event.{Event}
use Rattle.wf_model.specs.declared.event.RunFault.{RunFault}
use Rattle.wf_model.specs.declared.event.RunFault.TheVariants.{NoMemory}
use Rattle.wf_model.specs.Faults.{fault_of}
use Rattle.wf_run.specs.Runs.{RunSeen, IsRunOf}

-- a run is that of the events of another, and of this event behind them
abbrev pub IsRunAfter : RunSeen → Event → RunSeen → Type 0
IsRunAfter old e new = (events : List Event) → IsRunOf old events → IsRunOf new (events ++ e ∷ [])

-- a run has nothing against an event
abbrev pub RunTakes : RunSeen → Event → Type 0
RunTakes r e = (events : List Event) → IsRunOf r events → fault_of r.grammar.core r.most events e ≡ None

-- an event is refused so: memory was refused, or this fault is the first that the run has against it
abbrev pub RunRefuses : RunSeen → Event → RunFault → Type 0
RunRefuses r e f = (f ≡ NoMemory) ⊎ ((events : List Event) → IsRunOf r events → fault_of r.grammar.core r.most events e ≡ Some f)

-- a run has something against an event
abbrev pub RunRejects : RunSeen → Event → Type 0
RunRejects r e = (events : List Event) → IsRunOf r events → fault_of r.grammar.core r.most events e ≡ None → ⊥
