-- A query is answered from the entries of a label file in some word.
use Rattle.std.proofs.Common.{◌⊎◌, ℕ, List, refl, sym, inl, inr, ⊎_elim}
use Rattle.wf_model.specs.Lists.{IsIn}
use Rattle.wf_model.specs.Grammar.{Grammar}
use Rattle.wf_model.specs.WellFormed.{IsWellFormed}
use Rattle.wf_model.specs.Proper.{IsProper}
use Rattle.wf_model.specs.View.{View}
use Rattle.wf_model.specs.Safe.{IsSafe}
use Rattle.wf_model.specs.Finishing.{ExpandsComposites}
use Rattle.wf_model.proofs.Lists.{in_map_from}
use Rattle.wf_model.proofs.Deciding.{bytes_either, in_either}
use Rattle.label_model.specs.Labels.{Label}
use Rattle.label_model.specs.Files.{Entry, names_of_entries}
use Rattle.label_model.proofs.OpenedLabels.{HaveLabels}
use Rattle.verdict_model.proofs.SomeVerdict.{some_verdict}
use Rattle.wf_query.specs.declared.answers.Answer.{Answer}
use Rattle.wf_query.specs.declared.answers.Answer.TheVariants.{Unknown}
use Rattle.wf_query.specs.Answers.{HasEntry, HasNoEntry, IsAnswerOfLabels, answer_of, answer_text, IsAnswerText}

module _ (g : Grammar) (entries : List Entry) (labels : HaveLabels g entries) where
  -- an entry of a name, with the bytes of a label; or none
  abbrev pub EntryOrNone : List ℕ → Type 0
  EntryOrNone name = ((l : Label) × HasEntry g entries name l) ⊎ HasNoEntry entries name

  pub entry_or_none : (name : List ℕ) → EntryOrNone name
  entry_or_none name = ⊎_elim (λ i. inl (found i)) (λ none. inr none) (in_either bytes_either name (names_of_entries entries))
    where
      found : IsIn name (names_of_entries entries) → (l : Label) × HasEntry g entries name l
      found i =
          let e = in_map_from (λ (z : Entry). z.name) name entries i in
          let l = labels e.0 e.1 in
          (l.0, (e.0, e.1, sym e.2, l.1, l.2))

module _ (g : Grammar) (u : View) (formed : IsWellFormed g) (proper : IsProper g) (composites : ExpandsComposites g u) (safe : IsSafe g u) (entries : List Entry) (labels : HaveLabels g entries) where
  some_answer : (first second : List ℕ) → (a : Answer) × IsAnswerOfLabels g u entries first second a
  some_answer first second = by (entry_or_none g entries labels first) (entry_or_none g entries labels second)
    where
      by : EntryOrNone g entries labels first → EntryOrNone g entries labels second → (a : Answer) × IsAnswerOfLabels g u entries first second a
      by (inr none) y = (Unknown, inl (inl none, refl))
      by (inl x) (inr none) = (Unknown, inl (inr none, refl))
      by (inl x) (inl y) =
          let v = some_verdict g u formed proper composites safe x.0 y.0 x.1.3 y.1.3 in
          (answer_of v.0, inr (v.0, record { x = x.0; y = y.0; first_entry = x.1; second_entry = y.1; verdict = v.1 }, refl))

  pub some_word : (first second : List ℕ) → (word : List ℕ) × IsAnswerText g u entries first second word
  some_word first second = let a = some_answer first second in (answer_text a.0, (a.0, a.1, refl))
