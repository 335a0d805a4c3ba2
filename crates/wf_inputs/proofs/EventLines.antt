-- Events taken line by line: what the lines of a file tell where all are taken, and how it ends the program where they stop.
use Rattle.std.proofs.Common.{◌≡◌, ℕ, List, Option, Some, None, refl, sym, ap, ◌∙◌, inl}
use Rattle.std.specs.Prelude.{codes}
use Rattle.wf_model.specs.declared.event.Event.{Event}
use Rattle.wf_model.specs.Grammar.{Grammar}
use Rattle.report_model.specs.Intake.{Intake}
use Rattle.wf_io.specs.Lines.{FileLines}
use Rattle.wf_lines.specs.LineStages.{AllTaken, OfLines, ClosesOrGoesOn}
use Rattle.wf_lines.specs.Taking.{AreTaken, AreStopped}
use Rattle.wf_lines.proofs.LineStages.{closes_as}
use Rattle.wf_message.specs.Endings.{End}
use Rattle.wf_stage.specs.LineEnds.{line_ends}
use Rattle.wf_inputs.specs.Inputs.{instance_most}
use Rattle.wf_inputs.specs.RunTold.{TellsEvents, StopsEvents, EventsStage, stops, goes_on}
use Rattle.wf_inputs.specs.RunTaking.{TakenSoFar, none_taken_of, TakesReport, StopsReport, nothing_written, HoldsNone, StopsHolding}
use Rattle.wf_inputs.proofs.EventStages.{taken_whole, taken_told, GoesOn, events_forth}

-- before the first line no report is taken
abbrev pub at_start : Grammar → TakenSoFar
at_start = none_taken_of

-- the lines of a whole file are all taken, and nothing is put
abbrev pub AreTakenInto : Grammar → (TakenSoFar → Type 0) → FileLines → Type 0
AreTakenInto g IsAt file = AreTaken (AllTaken (line_ends (codes "events")) (TakesReport nothing_written) (StopsReport nothing_written) (at_start g) file.lines) HoldsNone IsAt file.tail None None

-- they tell the run that they leave
pub run_told : (g : Grammar) {IsAt : TakenSoFar → Type 0} (es : List Event) (file : FileLines) → ((q : TakenSoFar) → IsAt q → q.state.run ≡ es) → AreTakenInto g IsAt file → TellsEvents g instance_most file es
run_told g es file is taken =
    let t = taken_told nothing_written file.lines (at_start g) taken.state taken.text taken.taken in
    let same : taken.state.state ≡ t.1 = ap (λ (z : TakenSoFar). z.state) t.4 in
    record {
      whole = taken.whole;
      reports = t.0;
      read = t.2;
      state = t.1;
      taken = taken_whole g instance_most t.0 t.1 t.3 (sym (ap (λ (z : Intake). z.held) same) ∙ taken.finished.0);
      run = sym (ap (λ (z : Intake). z.run) same) ∙ is taken.state taken.at;
    }

-- nothing follows the last line
abbrev NothingFollows : List Event → End → List ℕ → Type 0
NothingFollows es ending text = ⊥

-- where its lines stop, a file of events ends the program
run_stops : (g : Grammar) (file : FileLines) (e : End) (text : List ℕ) → OfLines (line_ends (codes "events")) (TakesReport nothing_written) (StopsReport nothing_written) StopsHolding (at_start g) file.lines file.tail e text → StopsEvents g instance_most file e
run_stops g file e text h =
    go (events_forth nothing_written g instance_most NothingFollows file e text
    (closes_as (line_ends (codes "events")) (TakesReport nothing_written) (StopsReport nothing_written) StopsHolding (GoesOn nothing_written g instance_most NothingFollows) (λ s d t holds. inl holds) file.tail file.lines (at_start g) e text h))
  where
    go : EventsStage g instance_most file (nothing_written g) NothingFollows e text → StopsEvents g instance_most file e
    go (stops s after is) = (s, after)
    go (goes_on es told next) = absurd next

-- the lines of a file are stopped at an end, and nothing is put
abbrev pub AreStoppedAt : Grammar → Option End → Type 0 → FileLines → Type 0
AreStoppedAt g end Failed file = AreStopped (OfLines (line_ends (codes "events")) (TakesReport nothing_written) (StopsReport nothing_written) StopsHolding (at_start g) file.lines file.tail) (OfLines (line_ends (codes "events")) (TakesReport nothing_written) (StopsReport nothing_written) (ClosesOrGoesOn HoldsNone StopsHolding) (at_start g) file.lines file.tail) end Failed None None

-- then the file ends the program so
pub stopped_stops : (g : Grammar) (e : End) (Failed : Type 0) (file : FileLines) → AreStoppedAt g (Some e) Failed file → StopsEvents g instance_most file e
stopped_stops g e Failed file stopped = let r = stopped.whole e refl in run_stops g file e r.0 r.1
