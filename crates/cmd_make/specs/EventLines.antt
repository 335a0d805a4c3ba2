-- Events as lines.
use Rattle.std.specs.Prelude.{ℕ, List, flat_map}
use Rattle.wf_model.specs.declared.event.Event.{Event}
use Rattle.wf_gen.specs.Lines.{event_line}

-- the lines of events, in order
abbrev pub event_lines : List Event → List ℕ
event_lines events = flat_map event_line events
