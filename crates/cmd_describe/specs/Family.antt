-- `check` and `view` as a family of commands.
use Rattle.std.specs.Prelude.{ℕ, List}
use Rattle.wf_spec.specs.Held.{HeldGrammar}
use Rattle.wf_io.specs.Told.{File}
use Rattle.wf_stage.specs.Families.{Family}
use Rattle.wf_inputs.specs.GoodFiles.{HasGrammar, HaveView}
use Rattle.cmd_describe.specs.Words.{Command, Check, View, command_of, files_of}
use Rattle.cmd_describe.specs.Does.{Does}

-- the files of a command are good: SPEC is accepted, and VIEW is well-formed and safe
abbrev pub CanDescribe : (List ℕ → File) → Command → Type 0
CanDescribe files (Check s) = (h : HeldGrammar) × HasGrammar (files s) h
CanDescribe files (View s v) = (h : HeldGrammar) × HaveView (files s) (files v) h

abbrev pub describe_commands : Family
describe_commands = record {
  Command = Command;
  command_of = command_of;
  files_of = files_of;
  Does = Does;
  IsGood = CanDescribe;
  PutsNothingWanting = λ c. ⊥;
}
