-- The reports of the events that were applied, as the run and the lines that reported them tell.
use Rattle.std.specs.Prelude.{◌≡◌, ℕ, true, false, List, [], ◌∷◌, length, position, Option, Some, None, option_map, bytes_eq}
use Rattle.std.specs.Option.{option_or}
use Rattle.std.specs.List.{find}
use Rattle.wf_model.specs.declared.event.Event.{Event}
use Rattle.wf_model.specs.declared.event.Event.TheVariants.{Start, Expand}
use Rattle.wf_model.specs.Grammar.{Grammar}
use Rattle.wf_model.specs.Run.{Expanded, made, names_of, expanded_by}
use Rattle.report_model.specs.Reports.{Report, subject_of, same_event, about}
use Rattle.report_model.specs.Intake.{is_ready}
use Rattle.wf_intake.specs.declared.reported.ReportedBy.{ReportedBy}
use Rattle.wf_intake.specs.declared.standing.Standing.{Standing}
use Rattle.wf_intake.specs.declared.standing.Standing.TheVariants.{Same, Other, Ready, Early}
use Rattle.wf_intake.specs.Reported.{ReportedSeen, expansion_at}

-- the number of an instance of a run, in order of making
abbrev pub number_in : Grammar → List Event → List ℕ → Option ℕ
number_in g run i = position (bytes_eq i) (names_of (made g g.start run))

-- the number of the instance that an event expands
abbrev pub number_of : Grammar → List Event → Event → Option ℕ
number_of g run (Start r) = None
number_of g run (Expand i p names) = number_in g run i

-- the line and the production of the expansion of an instance
abbrev pub expansion_of : Grammar → List Event → ReportedSeen → List ℕ → Option ReportedBy
expansion_of g run seen i = expansion_at seen.expansions (number_in g run i)

-- the report of the start event of a run
abbrev pub started_by : ℕ → List Event → Option Report
started_by line [] = None
started_by line (e ∷ later) = Some (record { line = line; event = e })

-- the report of the expansion of an instance
abbrev pub expansion_by : List ℕ → Option Expanded → Option ReportedBy → Option Report
expansion_by i None by = None
expansion_by i (Some x) None = None
expansion_by i (Some x) (Some by) = Some (record { line = by.line; event = Expand i x.production x.names })

-- the report on a subject whose event was applied, if there is one
abbrev pub applied_to : Grammar → List Event → ReportedSeen → Option (List ℕ) → Option Report
applied_to g run seen None = started_by seen.start run
applied_to g run seen (Some i) = expansion_by i (expanded_by run i) (expansion_of g run seen i)

-- the report on the subject of an event whose event was applied, if there is one
abbrev pub applied_on : Grammar → List Event → ReportedSeen → Event → Option Report
applied_on g run seen x = applied_to g run seen (subject_of x)

-- the report that is known on the subject of an event: that whose event was applied, or else one that is held
abbrev pub known_by : Grammar → List Event → ReportedSeen → List Report → Event → Option Report
known_by g run seen held x = option_or (applied_on g run seen x) (find (about x) held)

-- a run that is not empty begins with a start event
abbrev pub BeginsWell : List Event → Type 0
BeginsWell [] = Unit {0}
BeginsWell (Start r ∷ later) = Unit {0}
BeginsWell (Expand i p names ∷ later) = ⊥

-- the lines are those of a run: there is a place for each instance, and it has a line exactly where the instance is expanded, with its production
pub record FitsRun (g : Grammar) (run : List Event) (seen : ReportedSeen) : Type 0 where
  pub begins : BeginsWell run
  pub many : length seen.expansions ≡ length (names_of (made g g.start run))
  pub productions : (i : List ℕ) → option_map (λ (by : ReportedBy). by.production) (expansion_of g run seen i) ≡ option_map (λ (x : Expanded). x.production) (expanded_by run i)

-- how an event stands to a run: a report of it was applied, or one of another event on its subject; or it is ready, and this is the number of the instance that it expands; or its instance does not stand yet
abbrev pub IsStanding : Grammar → List Event → ReportedSeen → Event → Standing → Type 0
IsStanding g run seen x Same = (k : Report) × (applied_on g run seen x ≡ Some k) × (same_event k.event x ≡ true)
IsStanding g run seen x (Other earlier) = (k : Report) × (applied_on g run seen x ≡ Some k) × (same_event k.event x ≡ false) × (k.line ≡ earlier)
IsStanding g run seen x (Ready number) = (applied_on g run seen x ≡ None) × (is_ready g run x ≡ true) × (number ≡ number_of g run x)
IsStanding g run seen x Early = (applied_on g run seen x ≡ None) × (is_ready g run x ≡ false) × (subject_of x ≡ None → ⊥)
