-- A query by words is answered from the entries of a label file by some word.
use Rattle.std.proofs.Common.{ℕ, List, refl, inl, inr}
use Rattle.wf_model.specs.Grammar.{Grammar}
use Rattle.wf_model.specs.View.{View}
use Rattle.label_model.specs.Files.{Entry}
use Rattle.label_model.proofs.OpenedLabels.{HaveLabels}
use Rattle.words_model.specs.Automata.{Automaton}
use Rattle.words_model.specs.Laws.{LiftSafely}
use Rattle.words_model.proofs.WordVerdicts.{word_verdict_law}
use Rattle.wf_query.specs.declared.answers.Answer.{Answer}
use Rattle.wf_query.specs.declared.answers.Answer.TheVariants.{Unknown}
use Rattle.wf_query.specs.Answers.{answer_of, answer_text}
use Rattle.wf_query.proofs.SomeWord.{EntryOrNone, entry_or_none}
use Rattle.wf_words.specs.Answers.{IsAnswerByWords, IsWordByWords}

module _ (g : Grammar) (entries : List Entry) (labels : HaveLabels g entries) where
  module _ (u : View) (a : Automaton) (safely : LiftSafely g u a) where
    some_answer : (first second : List ℕ) → (answer : Answer) × IsAnswerByWords g u a entries first second answer
    some_answer first second = by (entry_or_none g entries labels first) (entry_or_none g entries labels second)
      where
        by : EntryOrNone g entries labels first → EntryOrNone g entries labels second → (answer : Answer) × IsAnswerByWords g u a entries first second answer
        by (inr none) y = (Unknown, inl (inl none, refl))
        by (inl x) (inr none) = (Unknown, inl (inr none, refl))
        by (inl x) (inl y) =
            let v = (word_verdict_law g u a safely x.0 y.0 x.1.3 y.1.3).some in
            (answer_of v.0, inr (v.0, record { x = x.0; y = y.0; first_entry = x.1; second_entry = y.1; verdict = v.1 }, refl))

    -- each query has a word
    pub some_word_by_words : (first second : List ℕ) → (word : List ℕ) × IsWordByWords g u a entries first second word
    some_word_by_words first second = let r = some_answer first second in (answer_text r.0, (r.0, r.1, refl))
