-- What takes the lines of a file of events as reports.
use Rattle.std.specs.Prelude.{◌≡◌, ℕ, Bool, List, [], position, Option, Some, Result, bytes_eq}
use Rattle.std.specs.Cmp.Lexicographic.{pointwise}
use Rattle.wf_model.specs.declared.event.Event.{Event}
use Rattle.wf_model.specs.Grammar.{Grammar}
use Rattle.wf_model.specs.Run.{Expanded, expanded_by}
use Rattle.report_model.specs.Kept.{Kept}
use Rattle.wf_intake.specs.Reported.{ReportedSeen}
use Rattle.wf_intake.specs.Intakes.{IsIntakeOf}
use Rattle.wf_intake.specs.Rounds.{IsReportBegun}
use Rattle.wf_lines.specs.BegunLines.{BegunLine}
use Rattle.wf_flat.specs.Table.{Table, IsTableOf, events_of, names_in}
use Rattle.wf_io.specs.Told.{File}
use Rattle.wf_io.specs.Readings.{Reading}
use Rattle.wf_message.specs.declared.ending.Stop.{Stop}
use Rattle.wf_stage.specs.Promises.{ReadsLines}
use Rattle.wf_inputs.specs.Inputs.{instance_most}
use Rattle.wf_inputs.specs.RunTold.{IsEventText, report_on, TellsEvents, StopsEvents}
use Rattle.wf_inputs.specs.RunTaking.{TakenSoFar}

-- reports are taken so far: these reports are kept, these lines reported the events that are applied, and the run has grown by these
pub record IsTakenAs (g : Grammar) (most : ℕ) (kept : List Kept) (seen : ReportedSeen) (IsRun : List Event → Type 0) (s : TakenSoFar) : Type 0 where
  pub grammar : s.grammar ≡ g
  pub limit : s.limit ≡ most
  pub intake : IsIntakeOf g kept seen IsRun s.state

-- the report of a line is begun so far: these reports are kept, these lines reported the events that are applied, and the run has grown by these; what the line made so far is written of those that it applied
pub record IsTakenWithin (g : Grammar) (most : ℕ) (written : Grammar → List Event → List ℕ) (kept : List Kept) (seen : ReportedSeen) (IsRun : List Event → Type 0) (p : BegunLine TakenSoFar) : Type 0 where
  pub grammar : p.state.grammar ≡ g
  pub limit : p.state.limit ≡ most
  pub event : Event
  pub told : IsEventText p.text event
  pub begun : IsReportBegun g most (written g) kept seen IsRun [] p.made p.state.state (report_on p.number event)

-- what contracts see of a run of a grammar that grows
pub record GrowingSeen : Type 0 where
  pub grammar : Grammar
  pub run : Table

-- it has grown by these events
pub record IsGrownBy (r : GrowingSeen) (es : List Event) : Type 0 where
  pub run : IsTableOf r.grammar r.run
  pub events : events_of r.run ≡ es

-- an answer says whether the instance of a number of a table was expanded into instances of these names
abbrev pub IsChildrenTestIn : Table → ℕ → List (List ℕ) → Bool → Type 0
IsChildrenTestIn t number names answer =
    (instance : List ℕ) (x : Expanded) → position (bytes_eq instance) (names_in t.instances) ≡ Some number → expanded_by (events_of t) instance ≡ Some x → answer ≡ pointwise bytes_eq x.names names

-- what a stage that reads the lines of a file of events of a grammar answers: the table of the run that they tell
abbrev pub ReadsEvents : {S : Type 0} → (S → Option (List ℕ → File)) → (S → Option (List Reading)) → (S → ℕ) → (S → Bool) → List ℕ → Grammar → S → S → Result Table Stop → Type 0
ReadsEvents files readings faults last name g old new result = ReadsLines files readings faults last name (TellsEvents g instance_most) events_of (StopsEvents g instance_most) old new result
