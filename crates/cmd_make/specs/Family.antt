-- `export`, `gen` and `drill` as a family of commands.
use Rattle.std.specs.Prelude.{ℕ, List}
use Rattle.wf_spec.specs.Held.{HeldGrammar}
use Rattle.wf_io.specs.Told.{File}
use Rattle.wf_stage.specs.Families.{Family}
use Rattle.wf_inputs.specs.GoodFiles.{HasGrammar, HaveView, HasRun}
use Rattle.cmd_make.specs.Words.{Command, Export, Gen, Drill, command_of, files_of}
use Rattle.cmd_make.specs.Does.{Does}

-- the files of a command are good: SPEC is accepted, VIEW is well-formed and safe, and the reports of EVENTS are taken whole
abbrev pub CanMake : (List ℕ → File) → Command → Type 0
CanMake files (Export s v e) = (h : HeldGrammar) × HaveView (files s) (files v) h × HasRun h.core (files e)
CanMake files (Gen s n seed) = (h : HeldGrammar) × HasGrammar (files s) h
CanMake files (Drill s v n seed) = (h : HeldGrammar) × HaveView (files s) (files v) h

abbrev pub make_commands : Family
make_commands = record {
  Command = Command;
  command_of = command_of;
  files_of = files_of;
  Does = Does;
  IsGood = CanMake;
  PutsNothingWanting = λ c. ⊥;
}
