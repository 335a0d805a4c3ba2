use Rattle.std.proofs.Common.{refl, inl, inr}
use Rattle.wf_query.proofs.Entries.{entry_with, entry_without}
use Rattle.wf_words.proofs.answer.answer_by_words.Goals as goal

pub returns-in_default-clause-answer : goal.returns-in_default-clause-answer
returns-in_default-clause-answer g c u entries of held =
    inl (inl (entry_without _ entries _ held _ (rw c.in_default.is at c.get_both_guessed-first_label.ensures.first_none)), refl)

pub returns-in_default-second_label-clause-answer : goal.returns-in_default-second_label-clause-answer
returns-in_default-second_label-clause-answer g c u entries of held =
    inl (inr (entry_without _ entries _ held _ (rw c.in_default-second_label.is at c.get_both_guessed-first_label.ensures.second_none)), refl)

pub word_verdict-requires-clause-first : goal.word_verdict-requires-clause-first
word_verdict-requires-clause-first g c = c.requires.store.labels _ (rw c.in-Some.is at c.get_both_guessed-first_label.ensures.first_found)

pub word_verdict-requires-clause-second : goal.word_verdict-requires-clause-second
word_verdict-requires-clause-second g c = c.requires.store.labels _ (rw c.in-Some-second_label.is at c.get_both_guessed-first_label.ensures.second_found)

pub returns-clause-answer : goal.returns-clause-answer
returns-clause-answer g c u entries of held =
    let x = c.requires.store.labels _ (rw c.in-Some.is at c.get_both_guessed-first_label.ensures.first_found) in
    let y = c.requires.store.labels _ (rw c.in-Some-second_label.is at c.get_both_guessed-first_label.ensures.second_found) in
    inr (
      c.word_verdict.result,
      record {
        x = x.0;
        y = y.0;
        first_entry = entry_with _ entries _ held _ _ (rw c.in-Some.is at c.get_both_guessed-first_label.ensures.first_found) x.0 x.1 x.2;
        second_entry = entry_with _ entries _ held _ _ (rw c.in-Some-second_label.is at c.get_both_guessed-first_label.ensures.second_found) y.0 y.1 y.2;
        verdict = c.word_verdict.ensures.verdict u x.0 y.0 of x.1 y.1 x.2 y.2;
      },
      c.answer_by.ensures,
    )
