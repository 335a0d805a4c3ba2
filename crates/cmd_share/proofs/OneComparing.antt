-- What is written of two safe views is one text, and there is one.
use Rattle.std.proofs.Common.{◌≡◌, ◌⊎◌, ℕ, [], None, refl, sym, ap, ◌∙◌, inl, inr}
use Rattle.std.specs.Prelude.{codes}
use Rattle.wf_model.specs.declared.numbers.ModNo.{ModNo}
use Rattle.wf_model.specs.Grammar.{Grammar, Assignment}
use Rattle.wf_model.specs.View.{View}
use Rattle.wf_model.specs.WellFormed.{IsWellFormed}
use Rattle.wf_model.specs.Proper.{IsProper}
use Rattle.wf_model.specs.Safe.{IsSafe, IsFull}
use Rattle.wf_model.specs.Finishing.{ExpandsComposites}
use Rattle.wf_laws.proofs.Full.{safe_full_law}
use Rattle.compare_model.specs.Coarser.{IsCoarser, IsFirstExpandedAlone}
use Rattle.compare_model.specs.Laws.{AreCompared}
use Rattle.compare_model.proofs.Coarseness.{coarser_law}
use Rattle.compare_model.proofs.Comparisons.{one_outcome_law, some_outcome_law}
use Rattle.wf_compare.specs.declared.fault.CompareFault.TheVariants.{NotCoarser}
use Rattle.wf_compare.specs.FaultText.{compare_text}
use Rattle.wf_compare.specs.ComparedText.{compared_text}
use Rattle.wf_message.specs.Endings.{Done, Refused}
use Rattle.wf_stage.specs.Outcomes.{HasOneOutcome, HasOutcome, EndsInDone}
use Rattle.cmd_share.specs.Told.{ComparesViews, not_coarser, told}

-- two safe views of a proper grammar
pub record AreSafeViews (g : Grammar) (u c : View) : Type 0 where
  pub formed : IsWellFormed g
  pub proper : IsProper g
  pub fine_composites : ExpandsComposites g u
  pub fine_safe : IsSafe g u
  pub coarse_composites : ExpandsComposites g c
  pub coarse_safe : IsSafe g c

module _ (g : Grammar) (u c : View) (two : AreSafeViews g u c) where
  compared : IsCoarser c u → (d : Assignment) → IsFull g u d → AreCompared g c u d
  compared coarser d full = record {
    formed = two.formed;
    proper = two.proper;
    coarse_composites = two.coarse_composites;
    fine_composites = two.fine_composites;
    coarser = coarser;
    safe = two.coarse_safe;
    full = full;
  }

  not_both : (m : ModNo) → IsFirstExpandedAlone c u m.0 → IsCoarser c u → ⊥
  not_both m = (coarser_law g c u two.formed two.coarse_composites).not_both m.0

  one_alone : (m k : ModNo) → IsFirstExpandedAlone c u m.0 → IsFirstExpandedAlone c u k.0 → m ≡ k
  one_alone m k p q = ap (λ n. record { 0 = n }) ((coarser_law g c u two.formed two.coarse_composites).one m.0 k.0 p q)

  -- what is written of them, and how it ends, is one
  pub one_views : HasOneOutcome (ComparesViews g u c)
  one_views d e t s (not_coarser m p is text) (not_coarser k q at other) =
      (is ∙ (ap (λ (x : ModNo). Refused (codes "coarse") None (compare_text g (NotCoarser x))) (one_alone m k p q) ∙ sym at), text ∙ sym other)
  one_views d e t s (not_coarser m p is text) (told coarser f full x what at other) = absurd (not_both m p coarser)
  one_views d e t s (told coarser f full x what is text) (not_coarser k q at other) = absurd (not_both k q coarser)
  one_views d e t s (told coarser f full x what is text) (told also h more y that at other) =
      (is ∙ sym at, text ∙ (ap (compared_text g) (one_outcome_law g c u f h (compared coarser f full) more x y what that) ∙ sym other))

  -- something is written of them
  pub some_views : HasOutcome (ComparesViews g u c)
  some_views = by (coarser_law g c u two.formed two.coarse_composites).either
    where
      by : IsCoarser c u ⊎ ((m : ℕ) × IsFirstExpandedAlone c u m) → HasOutcome (ComparesViews g u c)
      by (inl coarser) =
          let full = safe_full_law g u two.formed two.proper two.fine_composites two.fine_safe in
          let x = some_outcome_law g c u full.0 (compared coarser full.0 full.1) in
          (Done, compared_text g x.0, told coarser full.0 full.1 x.0 x.1 refl refl)
      by (inr m) = (Refused (codes "coarse") None (compare_text g (NotCoarser (record { 0 = m.0 }))), [], not_coarser (record { 0 = m.0 }) m.1 refl refl)

  -- of a coarser view it ends in that all is done
  pub good_views : IsCoarser c u → EndsInDone (ComparesViews g u c)
  good_views coarser e t (not_coarser m p is text) = absurd (not_both m p coarser)
  good_views coarser e t (told also f full x what is text) = is
