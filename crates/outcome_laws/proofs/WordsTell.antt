-- What the labels of a run tell by words under a safe view, the run tells, however it is finished.
use Rattle.std.proofs.Common.{◌≡◌, ℕ, ◌⊎◌, ◌^◌, Bool, true, false, List, ◌++◌, Option, Some, None, codes, refl, sym, ap, ◌∙◌, subst, inl, inr, ⊎_elim}
use Rattle.wf_model.specs.Grammar.{Grammar}
use Rattle.wf_model.specs.View.{View}
use Rattle.wf_model.specs.declared.event.Event.{Event}
use Rattle.wf_model.specs.Run.{IsAccepted}
use Rattle.wf_model.specs.Items.{Item, items}
use Rattle.wf_model.specs.Finishing.{IsFinishing}
use Rattle.wf_laws.proofs.Growth.{finishing_law}
use Rattle.label_model.specs.Labels.{Label}
use Rattle.label_model.specs.RunLabels.{HasLabel}
use Rattle.label_model.specs.Files.{entries_of}
use Rattle.verdict_model.specs.declared.verdict.Verdict.{Verdict}
use Rattle.verdict_model.specs.declared.verdict.Verdict.TheVariants.{Hidden1, Hidden2, Clash, Yes, No}
use Rattle.verdict_model.specs.Verdicts.{IsHidden, AreShown, AreClashing, HasBoth}
use Rattle.verdict_model.proofs.Clashing.{either_law, no_clash_law}
use Rattle.words_model.specs.Automata.{Automaton}
use Rattle.words_model.specs.Verdicts.{AcceptsOnce, IsWordVerdict}
use Rattle.words_model.specs.Laws.{LiftSafely}
use Rattle.words_model.proofs.WordAnswers.{word_answer_law}
use Rattle.wf_query.specs.declared.answers.Answer.TheVariants.{Unknown}
use Rattle.wf_query.specs.Answers.{answer_of, answer_text}
use Rattle.wf_words.specs.Answers.{IsWordByWords}
use Rattle.wf_flat.specs.Item.{item_named}
use Rattle.wf_flat.specs.Shown.{are_visible}
use Rattle.wf_flat.proofs.NamedItems.{IsFoundBy, found_by}
use Rattle.outcome_laws.specs.WordsTell.{IsPathOfRun, IsPathShown, IsPathFor, WordsTellLaw}
use Rattle.outcome_laws.proofs.LabelEntries.{entry_named, no_entry, found_entry, found_label, not_found}
use Rattle.outcome_laws.proofs.VisibleItems.{both, both_visible, first_not, second_not}
use Rattle.outcome_laws.proofs.OlderFiles.{accepted_too, file_entries}

module _ (g : Grammar) (u : View) (a : Automaton) (safely : LiftSafely g u a) (e : List Event) (acc : IsAccepted g (2 ^ 24) e) where
  module _ (s t : Item) (x y : Label) (first : HasLabel g e s x) (second : HasLabel g e t y) where
    abbrev visible : Bool
    visible = are_visible g u e s t

    have_both : (more : List Event) → IsFinishing g u g.start e more → HasBoth g u x y e more s t
    have_both = both g u safely.formed e acc s t x y first second

    shown_true : AreShown g u x y → visible ≡ true
    shown_true = both_visible g u safely.formed e acc s t x y first second

    first_false : IsHidden g u x → visible ≡ false
    first_false = first_not g u safely.formed e acc s t x y first second

    second_false : (IsHidden g u x → ⊥) → IsHidden g u y → visible ≡ false
    second_false = second_not g u safely.formed e acc s t x y first second

    apart : AreClashing g x y → ⊥
    apart = no_clash_law g safely.formed e acc.0 s t x y first second

    -- the word of their verdict by the automaton answers in each finishing
    verdict_answers : (v : Verdict) → IsWordVerdict g u a x y v → (more : List Event) → IsFinishing g u g.start e more → IsPathShown visible g u a (e ++ more) s t (answer_text (answer_of v))
    verdict_answers Hidden1 h more f = subst (λ b. IsPathShown b g u a (e ++ more) s t (codes "hidden")) (sym (first_false h)) refl
    verdict_answers Hidden2 h more f = subst (λ b. IsPathShown b g u a (e ++ more) s t (codes "hidden")) (sym (second_false h.0 h.1)) refl
    verdict_answers Clash h more f = absurd (apart h.1)
    verdict_answers Yes h more f = subst (λ b. IsPathShown b g u a (e ++ more) s t (codes "yes")) (sym (shown_true h.0)) (inl (refl, h.2 e more s t (have_both more f)))
    verdict_answers No h more f =
        subst (λ b. IsPathShown b g u a (e ++ more) s t (codes "no")) (sym (shown_true h.0))
        (inr (refl, (word_answer_law g u a safely x y first.1 second.1 h.0 h.1).never h.2 e more s t (have_both more f)))

    -- the labels have the verdict whose word answers in one finishing
    abbrev Decided : List ℕ → Type 0
    Decided word = (v : Verdict) × IsWordVerdict g u a x y v × (word ≡ answer_text (answer_of v))

    shown_verdict : (more : List Event) → IsFinishing g u g.start e more → AreShown g u x y → (word : List ℕ) → IsPathOfRun g u a (e ++ more) s t word → Decided word
    shown_verdict more f shown word (inl p) =
        let once : AcceptsOnce g u a x y = record { events = e; more = more; first = s; second = t; both = have_both more f; accepts = p.1 } in
        (Yes, (shown, apart, (word_answer_law g u a safely x y first.1 second.1 shown apart).once.0 once), p.0)
    shown_verdict more f shown word (inr p) =
        (No, (shown, apart, λ always. p.1 (always e more s t (have_both more f))), p.0)

    answer_decides : (more : List Event) → IsFinishing g u g.start e more → (word : List ℕ) → IsPathShown visible g u a (e ++ more) s t word → Decided word
    answer_decides more f word h = by_first (either_law g u safely.formed x y first.1 second.1).hidden (either_law g u safely.formed y x second.1 first.1).hidden
      where
        by_first : IsHidden g u x ⊎ (IsHidden g u x → ⊥) → IsHidden g u y ⊎ (IsHidden g u y → ⊥) → Decided word
        by_first (inl hidden) either = (Hidden1, hidden, subst (λ b. IsPathShown b g u a (e ++ more) s t word) (first_false hidden) h)
        by_first (inr shown) (inl hidden) = (Hidden2, (shown, hidden), subst (λ b. IsPathShown b g u a (e ++ more) s t word) (second_false shown hidden) h)
        by_first (inr shown) (inr shown_too) =
            shown_verdict more f (shown, shown_too) word (subst (λ b. IsPathShown b g u a (e ++ more) s t word) (shown_true (shown, shown_too)) h)

  module _ (first second word : List ℕ) (more : List Event) (f : IsFinishing g u g.start e more) where
    -- from the entries to the run
    labels_give : (o p : Option Item) → IsFoundBy (items g g.start e) first o → IsFoundBy (items g g.start e) second p → IsWordByWords g u a (entries_of g e) first second word → IsPathFor g u a e (e ++ more) o p word
    labels_give None p found found_too h = ⊎_elim
        (λ q. h.2 ∙ ap answer_text q.1)
        (λ q. absurd (not_found g safely.formed e acc first q.1.x found q.1.first_entry))
        h.1
    labels_give (Some s) None found found_too h = ⊎_elim
        (λ q. h.2 ∙ ap answer_text q.1)
        (λ q. absurd (not_found g safely.formed e acc second q.1.y found_too q.1.second_entry))
        h.1
    labels_give (Some s) (Some t) found found_too h = ⊎_elim
        (λ q. absurd (⊎_elim
        (λ lacks. let z = found_entry g safely.formed e acc first s found in lacks (entry_named g (entries_of g e) first z.0 z.2))
        (λ lacks. let z = found_entry g safely.formed e acc second t found_too in lacks (entry_named g (entries_of g e) second z.0 z.2))
        q.0))
        (λ q. subst (λ w. IsPathShown (are_visible g u e s t) g u a (e ++ more) s t w) (sym (h.2 ∙ ap answer_text q.2))
        (verdict_answers s t q.1.x q.1.y (found_label g safely.formed e acc first s q.1.x found q.1.first_entry) (found_label g safely.formed e acc second t q.1.y found_too q.1.second_entry) q.0 q.1.verdict more f))
        h.1

    -- and back
    labels_take : (o p : Option Item) → IsFoundBy (items g g.start e) first o → IsFoundBy (items g g.start e) second p → IsPathFor g u a e (e ++ more) o p word → IsWordByWords g u a (entries_of g e) first second word
    labels_take None p found found_too h = (Unknown, inl (inl (no_entry g safely.formed e acc first found), refl), h)
    labels_take (Some s) None found found_too h = (Unknown, inl (inr (no_entry g safely.formed e acc second found_too), refl), h)
    labels_take (Some s) (Some t) found found_too h =
        let x = found_entry g safely.formed e acc first s found in
        let y = found_entry g safely.formed e acc second t found_too in
        let v = answer_decides s t x.0 y.0 x.1 y.1 more f word h in
        (answer_of v.0, inr (v.0, record { x = x.0; y = y.0; first_entry = x.2; second_entry = y.2; verdict = v.1 }, refl), v.2)

pub words_tell_law : WordsTellLaw
words_tell_law h u viewed older one_of e taken entries told a fits safe first second word =
    let g = h.core in
    let safely : LiftSafely g u a = record { formed = viewed.formed; proper = viewed.proper; composites = viewed.composites; fits = fits; safe = safe } in
    let acc = accepted_too h u viewed e older one_of taken in
    let same = file_entries h u viewed e older one_of taken entries told in
    let o = item_named (items g g.start e) first in
    let p = item_named (items g g.start e) second in
    let found = found_by (items g g.start e) first in
    let found_too = found_by (items g g.start e) second in (
      (λ w more f. labels_give g u a safely e acc first second word more f o p found found_too (subst (λ es. IsWordByWords g u a es first second word) same w)),
      (λ w. let f = finishing_law g u viewed.proper viewed.composites g.start e acc.0 in
          subst (λ es. IsWordByWords g u a es first second word) (sym same) (labels_take g u a safely e acc first second word f.0 f.1 o p found found_too (w f.0 f.1))),
    )
