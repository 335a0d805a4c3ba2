-- What `words` does.
use Rattle.std.specs.Prelude.{◌≡◌, ℕ, List, [], None, codes}
use Rattle.wf_model.specs.View.{View}
use Rattle.wf_spec.specs.Held.{HeldGrammar}
use Rattle.wf_io.specs.Told.{File}
use Rattle.words_model.specs.Automata.{Automaton}
use Rattle.wf_words.specs.Answers.{IsWordByWords}
use Rattle.wf_message.specs.Endings.{End, Refused}
use Rattle.wf_stage.specs.Stages.{Stage, OfWhole}
use Rattle.wf_inputs.specs.Inputs.{labels_kind, SpecStage, ViewStage}
use Rattle.wf_inputs.specs.LabelsTold.{TellsEntries, RefusesLabels}
use Rattle.wf_asking.specs.Queries.{QueriesStage}
use Rattle.cmd_words.specs.declared.words.WordsFiles.{WordsFiles}
use Rattle.cmd_words.specs.Words.{Command, Words}
use Rattle.cmd_words.specs.AutoTold.{IsSafeLifted, RefusesLifted, AutoStage}

-- LABELS and QUERIES under a view, by an automaton
abbrev pub AnswersLabels : HeldGrammar → View → Automaton → File → File → End → List ℕ → Type 0
AnswersLabels h u a labels queries =
    Stage labels_kind [] labels (TellsEntries h) (OfWhole (RefusesLabels h)) (λ entries. QueriesStage (IsWordByWords h.core u a entries) queries)

-- LABELS and QUERIES under a view, by an automaton that AUTO describes: it is refused in AUTO's place where the lifted view is not safe, and nothing was put; else it answers them
pub data AnswersLifted (h : HeldGrammar) (u : View) (a : Automaton) (labels queries : File) (ending : End) (text : List ℕ) : Type 0 where
  unsafe : (fault : List ℕ) → RefusesLifted h.core u a fault → ending ≡ Refused (codes "auto") None fault → text ≡ [] → AnswersLifted h u a labels queries ending text
  answered : IsSafeLifted h.core u a → AnswersLabels h u a labels queries ending text → AnswersLifted h u a labels queries ending text

-- AUTO, LABELS and QUERIES under a view
abbrev pub AnswersAuto : HeldGrammar → View → File → File → File → End → List ℕ → Type 0
AnswersAuto h u auto labels queries = AutoStage h.core u auto (λ a. AnswersLabels h u a labels queries)

-- VIEW, AUTO, LABELS and QUERIES of a grammar
abbrev pub AnswersView : HeldGrammar → File → File → File → File → End → List ℕ → Type 0
AnswersView h view auto labels queries = ViewStage h.core view (λ u. AnswersAuto h u auto labels queries)

-- `words` over the five files
abbrev pub AnswersByWords : File → File → File → File → File → End → List ℕ → Type 0
AnswersByWords spec view auto labels queries = SpecStage spec (λ h. AnswersView h view auto labels queries)

-- the command that the names of its files are
abbrev pub meant : WordsFiles → Command
meant w = Words w.spec.now w.view.now w.automaton.now w.labels.now w.queries.now

-- what a command does over files
abbrev pub Does : (List ℕ → File) → Command → End → List ℕ → Type 0
Does files (Words s v a l q) = AnswersByWords (files s) (files v) (files a) (files l) (files q)
