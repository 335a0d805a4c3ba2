-- `words` as a family of commands.
use Rattle.std.specs.Prelude.{ℕ, List}
use Rattle.wf_model.specs.View.{View}
use Rattle.wf_spec.specs.Held.{HeldGrammar}
use Rattle.wf_io.specs.Told.{File}
use Rattle.wf_io.specs.Lines.{lines_in}
use Rattle.words_model.specs.Automata.{Automaton}
use Rattle.wf_stage.specs.Families.{Family}
use Rattle.wf_stage.specs.Stages.{IsTold}
use Rattle.wf_inputs.specs.GoodFiles.{HasGrammar, HasView, HasEntries}
use Rattle.wf_asking.specs.GoodQueries.{AreQueries}
use Rattle.cmd_words.specs.Words.{Command, Words, command_of, files_of}
use Rattle.cmd_words.specs.AutoTold.{auto_kind, TellsAuto}
use Rattle.cmd_words.specs.Does.{Does}

-- SPEC is accepted, VIEW well-formed and safe, and QUERIES are queries; AUTO is whole and not too long, and describes an automaton whose lifted view is safe; and LABELS is a label file of the grammar or of one of its earlier versions
pub record CanAnswerByWords (spec view auto labels queries : File) : Type 0 where
  pub grammar : HeldGrammar
  pub has_grammar : HasGrammar spec grammar
  pub under : View
  pub has_view : HasView grammar.core view under
  pub automaton : Automaton
  pub has_automaton : IsTold auto_kind auto (TellsAuto grammar.core under) automaton
  pub has_entries : HasEntries grammar labels
  pub are_queries : AreQueries (lines_in queries)

-- the files of the command are good
abbrev pub CanAnswer : (List ℕ → File) → Command → Type 0
CanAnswer files (Words s v a l q) = CanAnswerByWords (files s) (files v) (files a) (files l) (files q)

-- `words` has answered nothing where it ends for want of memory
abbrev pub words_commands : Family
words_commands = record {
  Command = Command;
  command_of = command_of;
  files_of = files_of;
  Does = Does;
  IsGood = CanAnswer;
  PutsNothingWanting = λ c. Unit {0};
}
