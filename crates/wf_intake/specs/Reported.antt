-- Which lines reported the events that were applied.
use Rattle.std.specs.Prelude.{◌≡◌, ℕ, cond, ◌==◌, List, [], ◌++◌, length, get_or, replicate, slice_set, Option, Some, None}
use Rattle.wf_model.specs.declared.event.Event.{Event}
use Rattle.wf_model.specs.declared.event.Event.TheVariants.{Start, Expand}
use Rattle.wf_intake.specs.declared.reported.ReportedBy.{ReportedBy}

-- what contracts see of these lines: that of the start event, and those of the expansions, one for each instance in order of making
pub record ReportedSeen : Type 0 where
  pub start : ℕ
  pub expansions : List (Option ReportedBy)

-- before an event is applied
abbrev pub none_reported : ReportedSeen
none_reported = record { start = 0; expansions = [] }

-- the expansion that is kept for an instance; no line means that there is none
abbrev pub expansion_told : ReportedBy → Option ReportedBy
expansion_told by = cond (by.line == 0) None (Some by)

-- an expansion by this production, which the line of this number reported
abbrev pub reported_as : ℕ → ℕ → ReportedBy
reported_as line production = record { line = line; production = production }

-- the expansion of the instance of a number, if there is one
abbrev pub expansion_at : List (Option ReportedBy) → Option ℕ → Option ReportedBy
expansion_at slots None = None
expansion_at slots (Some k) = get_or slots k None

-- the instance of a number is expanded
abbrev pub expanded_at : List (Option ReportedBy) → Option ℕ → ReportedBy → List (Option ReportedBy)
expanded_at slots None by = slots
expanded_at slots (Some k) by = slice_set slots k (Some by)

-- the lines with the places of so many instances more, which are not expanded
abbrev pub with_places : ReportedSeen → ℕ → ReportedSeen
with_places seen count = record { start = seen.start; expansions = seen.expansions ++ replicate count None }

-- an expansion is kept so for an event that a line reports; of a start event nothing is
abbrev pub IsKeptFor : ℕ → Event → ReportedBy → Type 0
IsKeptFor line (Start r) by = Unit {0}
IsKeptFor line (Expand i p names) by = expansion_told by ≡ Some (reported_as line p)

-- the instance of a number is expanded, behind which so many instances more have a place that is empty still
abbrev pub SetsExpansion : List (Option ReportedBy) → ℕ → Option ℕ → ReportedBy → List (Option ReportedBy) → Type 0
SetsExpansion old count number by new =
    (slots : List (Option ReportedBy)) (told : ReportedBy) → expansion_told by ≡ Some told → old ≡ slots ++ replicate count None → new ≡ expanded_at slots number told ++ replicate count None

-- The lines after an event is applied that this line reports. An expansion is that of the instance of the number; the instances that the event makes are not expanded
abbrev pub noted : ReportedSeen → Option ℕ → ℕ → Event → ReportedSeen
noted seen number line (Start r) = record { start = line; expansions = seen.expansions ++ replicate 1 None }
noted seen number line (Expand i p names) = record { start = seen.start; expansions = expanded_at seen.expansions number (reported_as line p) ++ replicate (length names) None }
