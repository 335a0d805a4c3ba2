-- Label files with the same entries, in whatever order, answer queries alike.
use Rattle.std.proofs.Common.{ℕ, List, sym, subst, inl, inr, ⊎_elim}
use Rattle.std.specs.Prelude.{◌↔◌}
use Rattle.wf_model.specs.Lists.{IsIn}
use Rattle.wf_model.specs.Grammar.{Grammar}
use Rattle.wf_model.specs.View.{View}
use Rattle.wf_model.proofs.Lists.{in_map, in_map_from}
use Rattle.label_model.specs.Labels.{Label}
use Rattle.label_model.specs.Files.{Entry, names_of_entries}
use Rattle.wf_query.specs.Answers.{HasEntry, HasNoEntry, IsAnswerText}

module _ (g : Grammar) (xs ys : List Entry) (same : (x : Entry) → IsIn x xs ↔ IsIn x ys) where
  -- an entry of the one is an entry of the other
  entry_too : (n : List ℕ) (l : Label) → HasEntry g xs n l → HasEntry g ys n l
  entry_too n l h = (h.0, (same h.0).0 h.1, h.2, h.3, h.4)

  -- what has no entry in the one has none in the other
  none_too : (n : List ℕ) → HasNoEntry xs n → HasNoEntry ys n
  none_too n lacks h =
      let a = in_map_from (λ (z : Entry). z.name) n ys h in
      lacks (subst (λ m. IsIn m (names_of_entries xs)) (sym a.2) (in_map (λ (z : Entry). z.name) a.0 xs ((same a.0).1 a.1)))

  -- so a word that answers from the one answers from the other
  pub answer_too : (u : View) (first second word : List ℕ) → IsAnswerText g u xs first second word → IsAnswerText g u ys first second word
  answer_too u first second word h = (
    h.0,
    ⊎_elim
        (λ p. inl (⊎_elim (λ a. inl (none_too first a)) (λ b. inr (none_too second b)) p.0, p.1))
        (λ q. inr (q.0, record { x = q.1.x; y = q.1.y; first_entry = entry_too first q.1.x q.1.first_entry; second_entry = entry_too second q.1.y q.1.second_entry; verdict = q.1.verdict }, q.2))
        h.1,
    h.2,
  )
