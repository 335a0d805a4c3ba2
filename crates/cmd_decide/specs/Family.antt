-- `decide` as a family of commands.
use Rattle.std.specs.Prelude.{ℕ, List}
use Rattle.wf_spec.specs.Held.{HeldGrammar}
use Rattle.wf_io.specs.Told.{File}
use Rattle.label_model.specs.Reading.{IsLabelBytes}
use Rattle.wf_stage.specs.Families.{Family}
use Rattle.wf_inputs.specs.GoodFiles.{HaveView}
use Rattle.cmd_decide.specs.Words.{Command, Decide, command_of, files_of}
use Rattle.cmd_decide.specs.Does.{Does}

-- the files of the command are good: SPEC is accepted, and VIEW is well-formed and safe. So are its words: those of labels are labels
abbrev pub CanDecide : (List ℕ → File) → Command → Type 0
CanDecide files (Decide s v x y) = (h : HeldGrammar) × HaveView (files s) (files v) h × IsLabelBytes h.core x × IsLabelBytes h.core y

abbrev pub decide_commands : Family
decide_commands = record {
  Command = Command;
  command_of = command_of;
  files_of = files_of;
  Does = Does;
  IsGood = CanDecide;
  PutsNothingWanting = λ c. ⊥;
}
