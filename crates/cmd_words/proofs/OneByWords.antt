-- A query is answered by words in one word.
use Rattle.std.proofs.Common.{◌≡◌, ℕ, List, sym, ap, ◌∙◌, subst, inl, inr}
use Rattle.wf_model.specs.Lists.{AllDiffer}
use Rattle.wf_model.specs.Grammar.{Grammar}
use Rattle.wf_model.specs.View.{View}
use Rattle.label_model.specs.Files.{Entry, names_of_entries}
use Rattle.verdict_model.specs.declared.verdict.Verdict.{Verdict}
use Rattle.words_model.specs.Automata.{Automaton}
use Rattle.words_model.specs.Verdicts.{IsWordVerdict}
use Rattle.words_model.specs.Laws.{LiftSafely}
use Rattle.words_model.proofs.WordVerdicts.{word_verdict_law}
use Rattle.label_file.specs.Stored.{IsStoreFor}
use Rattle.label_file.proofs.ReadSoFar.{names_same}
use Rattle.wf_query.specs.declared.answers.Answer.{Answer}
use Rattle.wf_query.specs.Answers.{LacksEntry, answer_of, answer_text}
use Rattle.wf_query.specs.Lines.{IsOneWord}
use Rattle.wf_query.proofs.Entries.{name_of_entry, one_label}
use Rattle.wf_words.specs.Answers.{AreDecidedByWords, IsAnswerByWords, IsWordByWords}
use Rattle.cmd_words.specs.Prepared.{WordsKnown, AreOfView, IsToldBy}

module _ (g : Grammar) (u : View) (a : Automaton) (is : LiftSafely g u a) (es : List Entry) (differ : AllDiffer (names_of_entries es)) where
  -- a name with an entry does not lack one
  lacks_none : (first second : List ℕ) (v : Verdict) → LacksEntry es first second → AreDecidedByWords g u a es first second v → ⊥
  lacks_none first second v (inl n) d = n (name_of_entry es d.first_entry.0 d.first_entry.1 first d.first_entry.2)
  lacks_none first second v (inr n) d = n (name_of_entry es d.second_entry.0 d.second_entry.1 second d.second_entry.2)

  -- the labels of two entries have one verdict
  one_decided : (first second : List ℕ) (v w : Verdict) → AreDecidedByWords g u a es first second v → AreDecidedByWords g u a es first second w → v ≡ w
  one_decided first second v w p q =
      (word_verdict_law g u a is q.x q.y q.first_entry.3 q.second_entry.3).one v w
      (subst (λ z. IsWordVerdict g u a z q.y v) (one_label g u es differ first p.x q.x p.first_entry q.first_entry)
      (subst (λ z. IsWordVerdict g u a p.x z v) (one_label g u es differ second p.y q.y p.second_entry q.second_entry) p.verdict))
      q.verdict

  one_answer : (first second : List ℕ) (x y : Answer) → IsAnswerByWords g u a es first second x → IsAnswerByWords g u a es first second y → x ≡ y
  one_answer first second x y (inl p) (inl q) = p.1 ∙ sym q.1
  one_answer first second x y (inl p) (inr q) = absurd (lacks_none first second q.0 p.0 q.1)
  one_answer first second x y (inr p) (inl q) = absurd (lacks_none first second p.0 q.0 p.1)
  one_answer first second x y (inr p) (inr q) = p.2 ∙ (ap answer_of (one_decided first second p.0 q.0 p.1 q.1) ∙ sym q.2)

  pub one_word_by_words : IsOneWord (IsWordByWords g u a es)
  one_word_by_words first second x y p q = p.2 ∙ (ap answer_text (one_answer first second p.0 q.0 p.1 q.1) ∙ sym q.2)

-- so by what is known
pub one_word_told : (k : WordsKnown) → IsStoreFor k.words.plain.grammar k.held → AreOfView k → IsOneWord (IsToldBy k)
one_word_told k store of =
    let g = k.words.plain.grammar in
    one_word_by_words g k.view k.words.automaton of.words.safely k.entries (subst (λ (l : List (List ℕ)). AllDiffer l) (names_same g k.entries k.held of.held) store.differ)
