-- What the labels of a run tell under a safe view, the run tells, however it is finished.
use Rattle.std.proofs.Common.{◌≡◌, ℕ, ◌⊎◌, ◌^◌, Bool, true, false, List, ◌++◌, Option, Some, None, codes, refl, sym, ap, ◌∙◌, subst, inl, inr, ⊎_elim}
use Rattle.wf_model.specs.Grammar.{Grammar, Assignment}
use Rattle.wf_model.specs.WellFormed.{IsWellFormed}
use Rattle.wf_model.specs.View.{View}
use Rattle.wf_model.specs.Safe.{IsInduced}
use Rattle.wf_model.specs.declared.event.Event.{Event}
use Rattle.wf_model.specs.Run.{IsAccepted}
use Rattle.wf_model.specs.Items.{Item, items}
use Rattle.wf_model.specs.Finishing.{IsFinishing}
use Rattle.wf_laws.proofs.Growth.{finishing_law}
use Rattle.wf_laws.proofs.Full.{full_law, safe_full_law}
use Rattle.label_model.specs.Labels.{Label}
use Rattle.label_model.specs.RunLabels.{HasLabel}
use Rattle.label_model.specs.Files.{entries_of}
use Rattle.verdict_model.specs.declared.verdict.Verdict.{Verdict}
use Rattle.verdict_model.specs.declared.verdict.Verdict.TheVariants.{Hidden1, Hidden2, Clash, Yes, No}
use Rattle.verdict_model.specs.Verdicts.{IsHidden, AreShown, HasBoth, IsVerdict as IsVerdictOf}
use Rattle.verdict_model.proofs.Clashing.{either_law, no_clash_law}
use Rattle.verdict_model.proofs.Answering.{one_answer_induced}
use Rattle.wf_query.specs.declared.answers.Answer.TheVariants.{Unknown}
use Rattle.wf_query.specs.Answers.{answer_of, answer_text, IsAnswerText}
use Rattle.wf_flat.specs.Item.{item_named}
use Rattle.wf_flat.specs.Shown.{are_visible}
use Rattle.cmd_ask.specs.Answers.{IsVerdictOfRun, IsShown, IsAnswerFor}
use Rattle.outcome_laws.specs.Laws.{LabelsTellLaw}
use Rattle.wf_flat.proofs.NamedItems.{IsFoundBy, found_by}
use Rattle.outcome_laws.proofs.LabelEntries.{entry_named, no_entry, found_entry, found_label, not_found}
use Rattle.outcome_laws.proofs.VisibleItems.{both, both_visible, first_not, second_not}
use Rattle.outcome_laws.proofs.OlderFiles.{accepted_too, file_entries}

module _ (g : Grammar) (u : View) (wf : IsWellFormed g) (e : List Event) (acc : IsAccepted g (2 ^ 24) e) where
  module _ (d : Assignment) (induced : IsInduced g u d) (s t : Item) (x y : Label) (first : HasLabel g e s x) (second : HasLabel g e t y) where
    abbrev visible : Bool
    visible = are_visible g u e s t

    have_both : (more : List Event) → IsFinishing g u g.start e more → HasBoth g u x y e more s t
    have_both = both g u wf e acc s t x y first second

    shown_true : AreShown g u x y → visible ≡ true
    shown_true = both_visible g u wf e acc s t x y first second

    first_false : IsHidden g u x → visible ≡ false
    first_false = first_not g u wf e acc s t x y first second

    second_false : (IsHidden g u x → ⊥) → IsHidden g u y → visible ≡ false
    second_false = second_not g u wf e acc s t x y first second

    -- the word of their verdict answers in each finishing
    verdict_answers : (v : Verdict) → IsVerdictOf g u x y v → (more : List Event) → IsFinishing g u g.start e more → IsShown visible g u (e ++ more) s t (answer_text (answer_of v))
    verdict_answers Hidden1 h more f = subst (λ b. IsShown b g u (e ++ more) s t (codes "hidden")) (sym (first_false h)) refl
    verdict_answers Hidden2 h more f = subst (λ b. IsShown b g u (e ++ more) s t (codes "hidden")) (sym (second_false h.0 h.1)) refl
    verdict_answers Clash h more f = absurd (no_clash_law g wf e acc.0 s t x y first second h.1)
    verdict_answers Yes h more f = subst (λ b. IsShown b g u (e ++ more) s t (codes "yes")) (sym (shown_true h.0)) (inl (refl, h.2 e more s t (have_both more f)))
    verdict_answers No h more f =
        subst (λ b. IsShown b g u (e ++ more) s t (codes "no")) (sym (shown_true h.0))
        (inr (refl, λ depends. h.2 (one_answer_induced g u d wf induced x y h.0 e more s t (have_both more f) depends)))

    -- the labels have the verdict whose word answers in one finishing
    abbrev Decided : List ℕ → Type 0
    Decided word = (v : Verdict) × IsVerdictOf g u x y v × (word ≡ answer_text (answer_of v))

    shown_verdict : (more : List Event) → IsFinishing g u g.start e more → AreShown g u x y → (word : List ℕ) → IsVerdictOfRun g u (e ++ more) s t word → Decided word
    shown_verdict more f shown word (inl p) =
        (Yes, (shown, no_clash_law g wf e acc.0 s t x y first second, one_answer_induced g u d wf induced x y shown e more s t (have_both more f) p.1), p.0)
    shown_verdict more f shown word (inr p) =
        (No, (shown, no_clash_law g wf e acc.0 s t x y first second, λ always. p.1 (always e more s t (have_both more f))), p.0)

    answer_decides : (more : List Event) → IsFinishing g u g.start e more → (word : List ℕ) → IsShown visible g u (e ++ more) s t word → Decided word
    answer_decides more f word h = by_first (either_law g u wf x y first.1 second.1).hidden (either_law g u wf y x second.1 first.1).hidden
      where
        by_first : IsHidden g u x ⊎ (IsHidden g u x → ⊥) → IsHidden g u y ⊎ (IsHidden g u y → ⊥) → Decided word
        by_first (inl hidden) either = (Hidden1, hidden, subst (λ b. IsShown b g u (e ++ more) s t word) (first_false hidden) h)
        by_first (inr shown) (inl hidden) = (Hidden2, (shown, hidden), subst (λ b. IsShown b g u (e ++ more) s t word) (second_false shown hidden) h)
        by_first (inr shown) (inr shown_too) =
            shown_verdict more f (shown, shown_too) word (subst (λ b. IsShown b g u (e ++ more) s t word) (shown_true (shown, shown_too)) h)

  module _ (d : Assignment) (induced : IsInduced g u d) (first second word : List ℕ) (more : List Event) (f : IsFinishing g u g.start e more) where
    -- from the entries to the run
    labels_give : (a b : Option Item) → IsFoundBy (items g g.start e) first a → IsFoundBy (items g g.start e) second b → IsAnswerText g u (entries_of g e) first second word → IsAnswerFor g u e (e ++ more) a b word
    labels_give None b found found_too h = ⊎_elim
        (λ p. h.2 ∙ ap answer_text p.1)
        (λ q. absurd (not_found g wf e acc first q.1.x found q.1.first_entry))
        h.1
    labels_give (Some s) None found found_too h = ⊎_elim
        (λ p. h.2 ∙ ap answer_text p.1)
        (λ q. absurd (not_found g wf e acc second q.1.y found_too q.1.second_entry))
        h.1
    labels_give (Some s) (Some t) found found_too h = ⊎_elim
        (λ p. absurd (⊎_elim
        (λ lacks. let z = found_entry g wf e acc first s found in lacks (entry_named g (entries_of g e) first z.0 z.2))
        (λ lacks. let z = found_entry g wf e acc second t found_too in lacks (entry_named g (entries_of g e) second z.0 z.2))
        p.0))
        (λ q. subst (λ w. IsShown (are_visible g u e s t) g u (e ++ more) s t w) (sym (h.2 ∙ ap answer_text q.2))
        (verdict_answers d induced s t q.1.x q.1.y (found_label g wf e acc first s q.1.x found q.1.first_entry) (found_label g wf e acc second t q.1.y found_too q.1.second_entry) q.0 q.1.verdict more f))
        h.1

    -- and back
    labels_take : (a b : Option Item) → IsFoundBy (items g g.start e) first a → IsFoundBy (items g g.start e) second b → IsAnswerFor g u e (e ++ more) a b word → IsAnswerText g u (entries_of g e) first second word
    labels_take None b found found_too h = (Unknown, inl (inl (no_entry g wf e acc first found), refl), h)
    labels_take (Some s) None found found_too h = (Unknown, inl (inr (no_entry g wf e acc second found_too), refl), h)
    labels_take (Some s) (Some t) found found_too h =
        let x = found_entry g wf e acc first s found in
        let y = found_entry g wf e acc second t found_too in
        let v = answer_decides d induced s t x.0 y.0 x.1 y.1 more f word h in
        (answer_of v.0, inr (v.0, record { x = x.0; y = y.0; first_entry = x.2; second_entry = y.2; verdict = v.1 }, refl), v.2)

pub labels_tell_law : LabelsTellLaw
labels_tell_law h u viewed older one_of e taken entries told first second word =
    let g = h.core in
    let wf = viewed.formed in
    let acc = accepted_too h u viewed e older one_of taken in
    let same = file_entries h u viewed e older one_of taken entries told in
    let full = safe_full_law g u wf viewed.proper viewed.composites viewed.safe in
    let induced = (full_law g u full.0 wf viewed.proper viewed.composites).0 full.1 in
    let a = item_named (items g g.start e) first in
    let b = item_named (items g g.start e) second in
    let found = found_by (items g g.start e) first in
    let found_too = found_by (items g g.start e) second in (
      (λ w more f. labels_give g u wf e acc full.0 induced first second word more f a b found found_too (subst (λ es. IsAnswerText g u es first second word) same w)),
      (λ w. let f = finishing_law g u viewed.proper viewed.composites g.start e acc.0 in
          subst (λ es. IsAnswerText g u es first second word) (sym same) (labels_take g u wf e acc full.0 induced first second word f.0 f.1 a b found found_too (w f.0 f.1))),
    )
