-- `lineage`, `impact`, `explain` and `verify` as a family of commands.
use Rattle.std.specs.Prelude.{ℕ, List}
use Rattle.wf_spec.specs.Held.{HeldGrammar}
use Rattle.wf_io.specs.Told.{File}
use Rattle.wf_stage.specs.Families.{Family}
use Rattle.wf_inputs.specs.GoodFiles.{HaveView, HasRun, HasEntries}
use Rattle.cmd_explain.specs.Words.{Command, Lineage, Impact, Explain, Verify, command_of, files_of}
use Rattle.cmd_explain.specs.Verifying.{CanVerify}
use Rattle.cmd_explain.specs.Does.{Does}

-- the files of a command are good: SPEC is accepted, VIEW is well-formed and safe, LABELS is a label file of the grammar or of one of its earlier versions, the reports of EVENTS are taken whole, and each line of CHAIN has the form of its turn
abbrev pub CanExplain : (List ℕ → File) → Command → Type 0
CanExplain files (Lineage s v l x) = (h : HeldGrammar) × HaveView (files s) (files v) h × HasEntries h (files l)
CanExplain files (Impact s v l x) = (h : HeldGrammar) × HaveView (files s) (files v) h × HasEntries h (files l)
CanExplain files (Explain s v e x y) = (h : HeldGrammar) × HaveView (files s) (files v) h × HasRun h.core (files e)
CanExplain files (Verify s v e c) = CanVerify (files s) (files v) (files e) (files c)

abbrev pub explain_commands : Family
explain_commands = record {
  Command = Command;
  command_of = command_of;
  files_of = files_of;
  Does = Does;
  IsGood = CanExplain;
  PutsNothingWanting = λ c. ⊥;
}
