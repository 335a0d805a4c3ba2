-- An event whose names lie in an arena.
use Rattle.std.specs.Prelude.{ℕ, Bool, cond, List}
use Rattle.wf_model.specs.declared.event.Event.{Event}
use Rattle.wf_model.specs.declared.event.Event.TheVariants.{Start, Expand}
use Rattle.wf_inbox.specs.Packed.{first_name, behind_first, names_in}

-- the event that a text reports: the text of a start event is its name, and that of an expand event has the name of the instance, and then the names that it gives
abbrev pub event_told : List ℕ → ℕ → Bool → Event
event_told text production is_start = cond is_start (Start text) (Expand (first_name text) production (names_in (behind_first text)))
