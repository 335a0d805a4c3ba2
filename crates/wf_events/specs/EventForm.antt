-- The form of an event line.
use Rattle.std.specs.Prelude.{◌≡◌, ℕ, List, Option, Some, None, option_map, option_and_then, codes}
use Rattle.std.specs.declared.result.Result.{Result}
use Rattle.std.specs.declared.result.Result.TheVariants.{Ok, Err}
use Rattle.serde_json.specs.Data.{Data}
use Rattle.serde_json.specs.Find.{get}
use Rattle.wf_model.specs.declared.event.Event.{Event}
use Rattle.wf_model.specs.declared.event.Event.TheVariants.{Start, Expand}
use Rattle.wf_json.specs.Reading.{IsReading, HasNoReading}
use Rattle.wf_json.specs.Forms.{text_form, list_form, member_form, whole_form}
use Rattle.wf_events.specs.declared.fault.EventFault.{EventFault}
use Rattle.wf_events.specs.declared.fault.EventFault.TheVariants.{NotJson, WrongShape, NoMemory}

-- a start event, by what stands in `start`
abbrev pub start_form : Data → Option Event
start_form s = option_map (λ n. Start n) (text_form s)

-- an expand event, by what stands in `expand` and by the value
abbrev pub expand_form : Data → Data → Option Event
expand_form i d =
    option_and_then (λ n. option_and_then (λ p. option_map (λ ns. Expand n p ns)
    (member_form (codes "names") (list_form text_form) d))
    (member_form (codes "production") whole_form d))
    (text_form i)

-- by what stands in `start` and in `expand`, of which one is there
abbrev pub event_by : Option Data → Option Data → Data → Option Event
event_by None None d = None
event_by (Some s) None d = start_form s
event_by None (Some i) d = expand_form i d
event_by (Some s) (Some i) d = None

-- the event that a value is
abbrev pub event_of : Data → Option Event
event_of d = event_by (get (codes "start") d) (get (codes "expand") d) d

-- what a refusal of an event line says of the line
abbrev pub IsRefusal : List ℕ → EventFault → Type 0
IsRefusal line NotJson = HasNoReading line
IsRefusal line WrongShape = (d : Data) × IsReading line d × (event_of d ≡ None)
IsRefusal line NoMemory = Unit {0}

-- a result says what the value is; want of memory says nothing
abbrev pub IsToldAs : Option Event → Result Event EventFault → Type 0
IsToldAs o (Ok e) = o ≡ Some e
IsToldAs o (Err NotJson) = ⊥
IsToldAs o (Err WrongShape) = o ≡ None
IsToldAs o (Err NoMemory) = Unit {0}
