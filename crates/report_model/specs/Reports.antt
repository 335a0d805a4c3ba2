-- Reports of events: what each reports, what it is about, and when two report the same.
use Rattle.std.specs.Prelude.{ℕ, Bool, false, ◌&&◌, ◌==◌, List, map, Option, Some, None, bytes_eq}
use Rattle.std.specs.Option.{option_eq}
use Rattle.std.specs.Cmp.Lexicographic.{pointwise}
use Rattle.wf_model.specs.declared.event.Event.{Event}
use Rattle.wf_model.specs.declared.event.Event.TheVariants.{Start, Expand}

-- an event that is reported, and the number of the line that reports it
pub record Report : Type 0 where
  pub line : ℕ
  pub event : Event

-- the events that are reported, in the order of the reports
abbrev pub reported : List Report → List Event
reported reports = map (λ (r : Report). r.event) reports

-- what an event is about: a start event the start, and an expand event the instance that it names
abbrev pub subject_of : Event → Option (List ℕ)
subject_of (Start r) = None
subject_of (Expand i p names) = Some i

-- two events are about the same
abbrev pub same_subject : Event → Event → Bool
same_subject a b = option_eq bytes_eq (subject_of a) (subject_of b)

-- two events are the same: they start one root, or expand one instance by one production with the same names
abbrev pub same_event : Event → Event → Bool
same_event (Start a) (Start b) = bytes_eq a b
same_event (Start a) (Expand j q ms) = false
same_event (Expand i p ns) (Start b) = false
same_event (Expand i p ns) (Expand j q ms) = bytes_eq i j && ((p == q) && pointwise bytes_eq ns ms)

-- a report is about the same as an event
abbrev pub about : Event → Report → Bool
about x r = same_subject r.event x
