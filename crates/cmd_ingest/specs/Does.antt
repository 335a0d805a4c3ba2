-- What `ingest` does.
use Rattle.std.specs.Prelude.{ℕ, List}
use Rattle.wf_model.specs.Grammar.{Grammar}
use Rattle.wf_io.specs.Told.{File}
use Rattle.wf_io.specs.Lines.{lines_in}
use Rattle.wf_message.specs.Endings.{End}
use Rattle.wf_inputs.specs.Inputs.{instance_most, SpecStage}
use Rattle.wf_inputs.specs.RunTold.{EventsStage}
use Rattle.cmd_ingest.specs.declared.command.Command.{Command as CommandHeld}
use Rattle.cmd_ingest.specs.declared.command.Command.TheVariants.{Ingest as IngestsHeld}
use Rattle.cmd_ingest.specs.Words.{Command, Ingest}
use Rattle.cmd_ingest.specs.Ingested.{file_of, WritesFile}

-- `ingest` over EVENTS, of a grammar: the label file of the events that are taken, up to where EVENTS ends the program
abbrev pub IngestsOver : Grammar → File → End → List ℕ → Type 0
IngestsOver g events = EventsStage g instance_most (lines_in events) (file_of g) (WritesFile g)

-- `ingest` over SPEC and EVENTS
abbrev pub Ingests : File → File → End → List ℕ → Type 0
Ingests spec events = SpecStage spec (λ h. IngestsOver h.core events)

-- the command that a value is
abbrev pub meant : CommandHeld → Command
meant (IngestsHeld spec events) = Ingest spec.now events.now

-- what a command does over files
abbrev pub Does : (List ℕ → File) → Command → End → List ℕ → Type 0
Does files (Ingest s e) = Ingests (files s) (files e)
