-- What `export`, `gen` and `drill` do.
use Rattle.std.specs.Prelude.{ℕ, List, []}
use Rattle.wf_model.specs.declared.event.Event.{Event}
use Rattle.wf_model.specs.Grammar.{Grammar}
use Rattle.wf_model.specs.View.{View}
use Rattle.wf_io.specs.Told.{File}
use Rattle.wf_io.specs.Lines.{lines_in}
use Rattle.wf_gen.specs.Turns.{generated}
use Rattle.wf_export.specs.ExportText.{export_text}
use Rattle.wf_message.specs.Endings.{End}
use Rattle.wf_stage.specs.Ends.{IsWritten}
use Rattle.wf_inputs.specs.Inputs.{instance_most, SpecStage, ViewStage}
use Rattle.wf_inputs.specs.RunTold.{EventsStage}
use Rattle.cmd_make.specs.declared.command.Command.{Command as CommandHeld}
use Rattle.cmd_make.specs.declared.command.Command.TheVariants.{Export as ExportsHeld, Gen as GensHeld, Drill as DrillsHeld}
use Rattle.cmd_make.specs.EventLines.{event_lines}
use Rattle.cmd_make.specs.DrillText.{IsDrilled}
use Rattle.cmd_make.specs.Words.{Command, Export, Gen, Drill}

-- what a run shows under a view is written
abbrev pub ExportsRun : Grammar → View → List Event → End → List ℕ → Type 0
ExportsRun g u es = IsWritten (export_text g u es)

-- EVENTS under a view: nothing is written before all of them are taken
abbrev pub ExportsView : Grammar → View → File → End → List ℕ → Type 0
ExportsView g u events = EventsStage g instance_most (lines_in events) (λ es. []) (ExportsRun g u)

-- `export` over the three files
abbrev pub Exports : File → File → File → End → List ℕ → Type 0
Exports spec view events = SpecStage spec (λ h. ViewStage h.core view (λ u. ExportsView h.core u events))

-- the events of the run of a grammar that a number of expansions and a seed give, as lines
abbrev pub generated_text : Grammar → ℕ → ℕ → List ℕ
generated_text g n seed = event_lines (generated g n seed instance_most).events

-- `gen` over SPEC
abbrev pub Generates : File → ℕ → ℕ → End → List ℕ → Type 0
Generates spec n seed = SpecStage spec (λ h. IsWritten (generated_text h.core n seed))

-- `drill` over SPEC and VIEW
abbrev pub Drills : File → File → ℕ → ℕ → End → List ℕ → Type 0
Drills spec view n seed = SpecStage spec (λ h. ViewStage h.core view (λ u. IsDrilled h.core u n seed))

-- the command that a value is
abbrev pub meant : CommandHeld → Command
meant (ExportsHeld w) = Export w.spec.now w.view.now w.events.now
meant (GensHeld w) = Gen w.spec.now w.n w.seed
meant (DrillsHeld w) = Drill w.spec.now w.view.now w.n w.seed

-- what a command does over files
abbrev pub Does : (List ℕ → File) → Command → End → List ℕ → Type 0
Does files (Export s v e) = Exports (files s) (files v) (files e)
Does files (Gen s n seed) = Generates (files s) n seed
Does files (Drill s v n seed) = Drills (files s) (files v) n seed
