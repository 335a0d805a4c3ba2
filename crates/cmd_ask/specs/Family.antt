-- `trace` and `ask` as a family of commands.
use Rattle.std.specs.Prelude.{ℕ, List}
use Rattle.wf_spec.specs.Held.{HeldGrammar}
use Rattle.wf_io.specs.Told.{File}
use Rattle.wf_io.specs.Lines.{lines_in}
use Rattle.wf_stage.specs.Families.{Family}
use Rattle.wf_inputs.specs.GoodFiles.{HaveView, HasRun, HasEntries}
use Rattle.wf_asking.specs.GoodQueries.{AreQueries}
use Rattle.cmd_ask.specs.Words.{Command, Trace, Ask, command_of, files_of, IsAsk}
use Rattle.cmd_ask.specs.Does.{Does}

-- the files of a command are good: SPEC is accepted, VIEW well-formed and safe, QUERIES are queries; the reports of EVENTS are taken whole, and LABELS is a label file of the grammar or of one of its earlier versions
abbrev pub CanAnswer : (List ℕ → File) → Command → Type 0
CanAnswer files (Trace s v e q) = (h : HeldGrammar) × HaveView (files s) (files v) h × HasRun h.core (files e) × AreQueries (lines_in (files q))
CanAnswer files (Ask s v l q) = (h : HeldGrammar) × HaveView (files s) (files v) h × HasEntries h (files l) × AreQueries (lines_in (files q))

-- `ask` has answered nothing where it ends for want of memory
abbrev pub ask_commands : Family
ask_commands = record {
  Command = Command;
  command_of = command_of;
  files_of = files_of;
  Does = Does;
  IsGood = CanAnswer;
  PutsNothingWanting = IsAsk;
}
