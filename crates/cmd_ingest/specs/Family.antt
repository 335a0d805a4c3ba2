-- `ingest` as a family of commands.
use Rattle.std.specs.Prelude.{ℕ, List}
use Rattle.wf_spec.specs.Held.{HeldGrammar}
use Rattle.wf_io.specs.Told.{File}
use Rattle.wf_stage.specs.Families.{Family}
use Rattle.wf_inputs.specs.GoodFiles.{HasGrammar, HasRun}
use Rattle.cmd_ingest.specs.Words.{Command, Ingest, command_of, files_of}
use Rattle.cmd_ingest.specs.Does.{Does}

-- the files of the command are good: SPEC is accepted, and the reports of EVENTS are taken whole
abbrev pub CanIngest : (List ℕ → File) → Command → Type 0
CanIngest files (Ingest s e) = (h : HeldGrammar) × HasGrammar (files s) h × HasRun h.core (files e)

abbrev pub ingest_commands : Family
ingest_commands = record {
  Command = Command;
  command_of = command_of;
  files_of = files_of;
  Does = Does;
  IsGood = CanIngest;
  PutsNothingWanting = λ c. ⊥;
}
