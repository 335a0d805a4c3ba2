-- The line of an event.
use Rattle.std.specs.Prelude.{ℕ, List, ◌++◌, codes}
use Rattle.wf_model.specs.declared.event.Event.{Event}
use Rattle.wf_events.specs.Spelling.{event_text}

-- its text and a newline
abbrev pub event_line : Event → List ℕ
event_line e = event_text e ++ codes "\n"
