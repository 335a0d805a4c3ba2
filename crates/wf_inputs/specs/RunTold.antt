-- What a file of events tells: a run, or why it ends the program.
use Rattle.std.specs.Prelude.{◌≡◌, ◌⊎◌, ℕ, true, false, List, [], ◌∷◌, ◌++◌, Some, None, codes, decimal}
use Rattle.serde_json.specs.Data.{Data}
use Rattle.wf_model.specs.declared.event.Event.{Event}
use Rattle.wf_model.specs.Grammar.{Grammar}
use Rattle.report_model.specs.Reports.{Report}
use Rattle.report_model.specs.Intake.{Intake, nothing_taken, ReportFault, Conflict, Refused as RefusedByRun, Orphan, GoesOn, Stops, take_report, take_reports, intake}
use Rattle.wf_io.specs.Lines.{Line, FileLines, AtEnd, Broken, LongFile, is_too_long, text_of}
use Rattle.wf_json.specs.Reading.{IsReading, HasNoReading}
use Rattle.wf_events.specs.EventForm.{event_of}
use Rattle.wf_message.specs.Endings.{End, Refused, ReadFault}
use Rattle.run_faults.specs.FaultNames.{run_name}

-- the text is an event in JSON
abbrev pub IsEventText : List ℕ → Event → Type 0
IsEventText text e = (d : Data) × IsReading text d × (event_of d ≡ Some e)

-- the line is not too long and tells this event
abbrev pub IsEventLine : Line → Event → Type 0
IsEventLine l e = (is_too_long l.raw ≡ false) × IsEventText (text_of l.raw) e

-- the report of an event on the line of a number
abbrev pub report_on : ℕ → Event → Report
report_on number e = record { line = number; event = e }

-- each line reports its event, by its number
abbrev pub AreReports : List Line → List Report → Type 0
AreReports [] [] = Unit {0}
AreReports [] (r ∷ rs) = ⊥
AreReports (l ∷ ls) [] = ⊥
AreReports (l ∷ ls) (r ∷ rs) = (r.line ≡ l.number) × IsEventLine l r.event × AreReports ls rs

-- lines tell reports, all of which are taken, and leave this state of the intake
pub record AreTakenTo (g : Grammar) (limit : ℕ) (lines : List Line) (state : Intake) : Type 0 where
  pub reports : List Report
  pub read : AreReports lines reports
  pub taken : take_reports g limit nothing_taken reports ≡ GoesOn state

-- why a text tells no event: it has no reading; or the value that it reads as has not the form of an event
abbrev pub RefusesForm : List ℕ → List ℕ → Type 0
RefusesForm text fault =
    (HasNoReading text × (fault ≡ codes "NotJson")) ⊎
    ((d : Data) × IsReading text d × (event_of d ≡ None) × (fault ≡ codes "WrongShape"))

-- why a line reports no event: it is too long; or its text tells none
abbrev pub RefusesLine : Line → List ℕ → Type 0
RefusesLine l fault =
    ((is_too_long l.raw ≡ true) × (fault ≡ codes "LineTooLong")) ⊎
    ((is_too_long l.raw ≡ false) × RefusesForm (text_of l.raw) fault)

-- the end of the program where a report is refused: the line of the report, and the fault; a conflict names the line of the earlier report too
abbrev pub report_end : ReportFault → End
report_end (Conflict line earlier) = Refused (codes "events") (Some line) (codes "Conflict" ++ (codes " " ++ (codes "with" ++ (codes " " ++ decimal earlier))))
report_end (RefusedByRun line fault) = Refused (codes "events") (Some line) (run_name fault)
report_end (Orphan line) = Refused (codes "events") (Some line) (codes "Orphan")

-- lines are taken up to one that reports no event, where the state of the intake is this one
pub record IsRefusedAt (g : Grammar) (limit : ℕ) (lines : List Line) (state : Intake) (ending : End) : Type 0 where
  pub taken : List Line
  pub first : Line
  pub later : List Line
  pub split : lines ≡ taken ++ first ∷ later
  pub told : AreTakenTo g limit taken state
  pub fault : List ℕ
  pub refused : RefusesLine first fault
  pub ending_is : ending ≡ Refused (codes "events") (Some first.number) fault

-- lines are taken up to one that reports an event; when its report is taken, it or one that was held is refused, and this state is left
pub record IsStoppedAt (g : Grammar) (limit : ℕ) (lines : List Line) (state : Intake) (ending : End) : Type 0 where
  pub taken : List Line
  pub first : Line
  pub later : List Line
  pub split : lines ≡ taken ++ first ∷ later
  pub before : Intake
  pub told : AreTakenTo g limit taken before
  pub event : Event
  pub read : IsEventLine first event
  pub fault : ReportFault
  pub stops : take_report g limit before (report_on first.number event) ≡ Stops state fault
  pub ending_is : ending ≡ report_end fault

-- all lines are taken, and a report is held still: the first of them is refused
pub record IsHeldAtEnd (g : Grammar) (limit : ℕ) (lines : List Line) (state : Intake) (ending : End) : Type 0 where
  pub told : AreTakenTo g limit lines state
  pub first : Report
  pub later : List Report
  pub held : state.held ≡ first ∷ later
  pub ending_is : ending ≡ report_end (Orphan first.line)

-- Why a file of events ends the program, and the state of the intake that is left, with the events that were applied before.
-- A line reports no event; a report is refused; the file is whole, and a report is held still; or all lines are taken, and the file goes on past the most bytes that are read of it, or is broken
pub data StopsIn (g : Grammar) (limit : ℕ) (file : FileLines) (state : Intake) (ending : End) : Type 0 where
  refused : IsRefusedAt g limit file.lines state ending → StopsIn g limit file state ending
  stopped : IsStoppedAt g limit file.lines state ending → StopsIn g limit file state ending
  held : file.tail ≡ AtEnd → IsHeldAtEnd g limit file.lines state ending → StopsIn g limit file state ending
  long_file : (n : ℕ) → AreTakenTo g limit file.lines state → file.tail ≡ LongFile n → ending ≡ Refused (codes "events") (Some n) (codes "FileTooLong") → StopsIn g limit file state ending
  broken : AreTakenTo g limit file.lines state → file.tail ≡ Broken → ending ≡ ReadFault (codes "events") → StopsIn g limit file state ending

-- the lines of a whole file tell reports, which the intake takes whole: it refuses none, holds none at the end, and this is its run
pub record TellsEvents (g : Grammar) (limit : ℕ) (file : FileLines) (events : List Event) : Type 0 where
  pub whole : file.tail ≡ AtEnd
  pub reports : List Report
  pub read : AreReports file.lines reports
  pub state : Intake
  pub taken : intake g limit reports ≡ GoesOn state
  pub run : state.run ≡ events

-- a file of events ends the program, whatever events were applied before
abbrev pub StopsEvents : Grammar → ℕ → FileLines → End → Type 0
StopsEvents g limit file ending = (state : Intake) × StopsIn g limit file state ending

-- What a file of events makes, where a text is put of the events that are applied: it ends the program, and the text is that of the events that were applied before; or it is whole and tells a run, with which the program goes on
pub data EventsStage (g : Grammar) (limit : ℕ) (file : FileLines) (written : List Event → List ℕ) (Next : List Event → End → List ℕ → Type 0) (ending : End) (text : List ℕ) : Type 0 where
  stops : (state : Intake) → StopsIn g limit file state ending → text ≡ written state.run → EventsStage g limit file written Next ending text
  goes_on : (es : List Event) → TellsEvents g limit file es → Next es ending text → EventsStage g limit file written Next ending text
