-- The answers to queries by words, from the entries of a label file.
use Rattle.std.specs.Prelude.{◌≡◌, ◌⊎◌, ℕ, List}
use Rattle.wf_model.specs.Grammar.{Grammar}
use Rattle.wf_model.specs.View.{View}
use Rattle.label_model.specs.Labels.{Label}
use Rattle.label_model.specs.Files.{Entry}
use Rattle.verdict_model.specs.declared.verdict.Verdict.{Verdict}
use Rattle.words_model.specs.Automata.{Automaton}
use Rattle.words_model.specs.Verdicts.{IsWordVerdict}
use Rattle.wf_query.specs.declared.answers.Answer.{Answer}
use Rattle.wf_query.specs.declared.answers.Answer.TheVariants.{Unknown}
use Rattle.wf_query.specs.Answers.{HasEntry, LacksEntry, answer_of, answer_text}

-- the labels of two entries have this verdict by the automaton
pub record AreDecidedByWords (g : Grammar) (u : View) (a : Automaton) (entries : List Entry) (first second : List ℕ) (v : Verdict) : Type 0 where
  pub x : Label
  pub y : Label
  pub first_entry : HasEntry g entries first x
  pub second_entry : HasEntry g entries second y
  pub verdict : IsWordVerdict g u a x y v

-- The answer to a query of two names: unknown where either has no entry, and otherwise that of the verdict by the automaton on the labels of the two entries
abbrev pub IsAnswerByWords : Grammar → View → Automaton → List Entry → List ℕ → List ℕ → Answer → Type 0
IsAnswerByWords g u a entries first second answer =
    (LacksEntry entries first second × (answer ≡ Unknown)) ⊎
    ((v : Verdict) × AreDecidedByWords g u a entries first second v × (answer ≡ answer_of v))

-- the word of the answer to a query
abbrev pub IsWordByWords : Grammar → View → Automaton → List Entry → List ℕ → List ℕ → List ℕ → Type 0
IsWordByWords g u a entries first second text = (answer : Answer) × IsAnswerByWords g u a entries first second answer × (text ≡ answer_text answer)
