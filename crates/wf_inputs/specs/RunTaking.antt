-- How the lines of a file of events are taken, one after the other.
use Rattle.std.specs.Prelude.{◌≡◌, ◌⊎◌, ℕ, List, [], ◌∷◌, ◌++◌, Some, codes}
use Rattle.wf_model.specs.declared.event.Event.{Event}
use Rattle.wf_model.specs.Grammar.{Grammar}
use Rattle.wf_model.specs.Run.{IsAccepted}
use Rattle.report_model.specs.Reports.{Report}
use Rattle.report_model.specs.Intake.{Intake, nothing_taken, ReportFault, Orphan, GoesOn, Stops, hold, take_report}
use Rattle.wf_lines.specs.BegunLines.{BegunLine}
use Rattle.wf_intake.specs.Rounds.{IsOnTheWay}
use Rattle.wf_message.specs.Endings.{End, Refused}
use Rattle.wf_inputs.specs.Inputs.{instance_most}
use Rattle.wf_inputs.specs.RunTold.{IsEventText, RefusesForm, report_on, report_end}

-- how far reports are taken: the grammar of the run, the limit on its instances, and the state of the intake
pub record TakenSoFar : Type 0 where
  pub grammar : Grammar
  pub limit : ℕ
  pub state : Intake

-- the same in another state
abbrev pub with_state : TakenSoFar → Intake → TakenSoFar
with_state s q = record { grammar = s.grammar; limit = s.limit; state = q }

-- before the first line
abbrev pub none_taken_of : Grammar → TakenSoFar
none_taken_of g = record { grammar = g; limit = instance_most; state = nothing_taken }

-- a text is written behind that of the events before
abbrev pub IsWrittenBehind : (List Event → List ℕ) → List Event → List Event → List ℕ → Type 0
IsWrittenBehind written before after made = written after ≡ written before ++ made

module _ (written : Grammar → List Event → List ℕ) where
  -- the text of the line of a number tells an event, and its report is taken; what is made is written of the events that are applied
  pub record TakesReport (s : TakenSoFar) (number : ℕ) (text : List ℕ) (q : TakenSoFar) (made : List ℕ) : Type 0 where
    pub event : Event
    pub state : Intake
    pub told : IsEventText text event
    pub taken : take_report s.grammar s.limit s.state (report_on number event) ≡ GoesOn state
    pub leaves : q ≡ with_state s state
    pub made_is : IsWrittenBehind (written s.grammar) s.state.run state.run made

  -- the text of the line of a number has not the form of an event, and nothing is made
  abbrev pub RefusesFormAt : TakenSoFar → ℕ → List ℕ → End → List ℕ → Type 0
  RefusesFormAt s number text ending made = (fault : List ℕ) × RefusesForm text fault × (ending ≡ Refused (codes "events") (Some number) fault) × (made ≡ [])

  -- it tells an event, and when its report is taken, this one or another is refused; what is made is written of the events that are applied before
  pub record RefusesReportAt (s : TakenSoFar) (number : ℕ) (text : List ℕ) (ending : End) (made : List ℕ) : Type 0 where
    pub event : Event
    pub state : Intake
    pub fault : ReportFault
    pub told : IsEventText text event
    pub refused : take_report s.grammar s.limit s.state (report_on number event) ≡ Stops state fault
    pub ending_is : ending ≡ report_end fault
    pub made_is : IsWrittenBehind (written s.grammar) s.state.run state.run made

  -- a line ends the program so, or so
  abbrev pub StopsReport : TakenSoFar → ℕ → List ℕ → End → List ℕ → Type 0
  StopsReport s number text ending made = RefusesFormAt s number text ending made ⊎ RefusesReportAt s number text ending made

  -- the line was begun, and of the events that its report sets free those up to a state of the intake are applied; what is made is written of these
  pub record AppliesSoFar (p : BegunLine TakenSoFar) : Type 0 where
    pub event : Event
    pub first : Intake
    pub reached : Intake
    pub told : IsEventText p.text event
    pub held : hold p.state.state (report_on p.number event) ≡ GoesOn first
    pub on_the_way : IsOnTheWay p.state.grammar p.state.limit first reached
    pub made_is : IsWrittenBehind (written p.state.grammar) first.run reached.run p.made

  -- what a line makes so far: nothing, or the text of events that it applies
  abbrev pub MakesSoFar : BegunLine TakenSoFar → Type 0
  MakesSoFar p = (p.made ≡ []) ⊎ AppliesSoFar p

-- nothing is written of the events of a run
abbrev pub nothing_written : Grammar → List Event → List ℕ
nothing_written g es = []

-- at the end of the file no report is held, and nothing is made
abbrev pub HoldsNone : TakenSoFar → List ℕ → Type 0
HoldsNone s made = (s.state.held ≡ []) × (made ≡ [])

-- at the end of the file a report is held: the first of them is refused, and nothing is made
abbrev pub StopsHolding : TakenSoFar → End → List ℕ → Type 0
StopsHolding s ending made = (r : Report) × (held : List Report) × (s.state.held ≡ r ∷ held) × (ending ≡ report_end (Orphan r.line)) × (made ≡ [])

-- the run so far is an accepted one
abbrev pub IsAcceptedSoFar : TakenSoFar → Type 0
IsAcceptedSoFar s = IsAccepted s.grammar s.limit s.state.run
