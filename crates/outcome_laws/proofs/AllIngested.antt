-- What `ingest` has taken where it ended in Done.
use Rattle.std.proofs.Common.{◌≡◌, ℕ, List}
use Rattle.wf_model.specs.declared.event.Event.{Event}
use Rattle.wf_model.specs.Grammar.{Grammar}
use Rattle.report_model.specs.Intake.{Intake, ReportFault, Conflict, Refused as RefusedByRun, Orphan}
use Rattle.wf_spec.specs.Held.{HeldGrammar}
use Rattle.wf_io.specs.Told.{File}
use Rattle.wf_io.specs.Lines.{FileLines, lines_in}
use Rattle.wf_message.specs.Endings.{Done}
use Rattle.wf_stage.specs.Stages.{too_long, broken, refused, goes_on, IsTold}
use Rattle.wf_inputs.specs.Inputs.{spec_kind, instance_most}
use Rattle.wf_inputs.specs.Specification.{TellsGrammar}
use Rattle.wf_inputs.specs.RunTold.{report_end, StopsIn, refused as refused_at, stopped, held, long_file, broken as broken_at, TellsEvents, EventsStage, stops, goes_on as goes_on_with}
use Rattle.cmd_ingest.specs.Ingested.{file_of, WritesFile}
use Rattle.cmd_ingest.specs.Does.{Ingests}

-- SPEC tells a grammar, all of EVENTS was taken, and what was written is the label file of its events
pub record IsIngested (spec events : File) (text : List ℕ) : Type 0 where
  pub grammar : HeldGrammar
  pub told : IsTold spec_kind spec TellsGrammar grammar
  pub es : List Event
  pub run : TellsEvents grammar.core instance_most (lines_in events) es
  pub is : text ≡ file_of grammar.core es

-- the events of the run that all lines tell, and its label file
record AllTaken (g : Grammar) (events : File) (text : List ℕ) : Type 0 where
  es : List Event
  run : TellsEvents g instance_most (lines_in events) es
  is : text ≡ file_of g es

-- no report is refused where all is done
none_refused : (f : ReportFault) → Done ≡ report_end f → ⊥
none_refused (Conflict line earlier) is = absurd (cc)
none_refused (RefusedByRun line fault) is = absurd (cc)
none_refused (Orphan line) is = absurd (cc)

-- and EVENTS does not end the program
not_stopped : (g : Grammar) (file : FileLines) (state : Intake) → StopsIn g instance_most file state Done → ⊥
not_stopped g file state (refused_at at) = let is = at.ending_is in absurd (cc)
not_stopped g file state (stopped at) = none_refused at.fault at.ending_is
not_stopped g file state (held ends at) = none_refused (Orphan at.first.line) at.ending_is
not_stopped g file state (long_file n told long is) = absurd (cc)
not_stopped g file state (broken_at told breaks is) = absurd (cc)

events_taken : (g : Grammar) (events : File) (text : List ℕ) → EventsStage g instance_most (lines_in events) (file_of g) (WritesFile g) Done text → AllTaken g events text
events_taken g events text (stops state how is) = absurd (not_stopped g (lines_in events) state how)
events_taken g events text (goes_on_with es told next) = record { es = es; run = told; is = next.1 }

pub all_ingested : (spec events : File) (text : List ℕ) → Ingests spec events Done text → IsIngested spec events text
all_ingested spec events text (too_long l x y) = absurd (cc)
all_ingested spec events text (broken l b x y) = absurd (cc)
all_ingested spec events text (refused l b line fault r x y) = absurd (cc)
all_ingested spec events text (goes_on l b h told next) =
    let taken = events_taken h.core events text next in
    record { grammar = h; told = record { short = l; whole = b; tells = told }; es = taken.es; run = taken.run; is = taken.is }
