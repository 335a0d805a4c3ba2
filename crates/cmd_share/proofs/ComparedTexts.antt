-- How `compare` ends at two safe views.
use Rattle.std.proofs.Common.{◌≡◌, ◌⊎◌, ℕ, Bool, List, [], Option, None, refl, sym, subst, inl, inr, arith}
use Rattle.std.specs.Prelude.{codes}
use Rattle.wf_model.specs.Grammar.{Grammar}
use Rattle.wf_model.specs.View.{View}
use Rattle.wf_safe.specs.SafeViews.{SafeViewValue}
use Rattle.wf_compare.specs.declared.fault.CompareFault.{CompareFault}
use Rattle.wf_compare.specs.declared.fault.CompareFault.TheVariants.{NotCoarser, NoMemory as NoMemoryOfTwo}
use Rattle.wf_compare.specs.Comparing.{IsRefused}
use Rattle.wf_compare.specs.FaultText.{compare_text}
use Rattle.wf_message.specs.Endings.{End, Done, Refused, NoMemory}
use Rattle.wf_stage.specs.Ends.{IsWritten}
use Rattle.wf_stage.specs.Promises.{Writes}
use Rattle.wf_stage.proofs.Ends.{begins_nothing, nothing_put}
use Rattle.wf_stage.proofs.Writing.{writes_wanting, writes_alike}
use Rattle.cmd_share.specs.Told.{ComparesViews, not_coarser, told}
use Rattle.cmd_share.proofs.OneComparing.{AreSafeViews, one_views}

-- why two views are not compared, or want of memory
pub refused_two : (fine coarse : SafeViewValue) (g : Grammar) (f : CompareFault) (e : End) → IsRefused fine coarse f → (f ≡ NoMemoryOfTwo → e ≡ NoMemory) →
    (e ≡ NoMemory) ⊎ (e ≡ Refused (codes "coarse") None (compare_text g f)) → (e ≡ NoMemory) ⊎ ComparesViews g fine.view.core coarse.view.core e []
refused_two fine coarse g (NotCoarser m) e h memory (inl wants) = inl wants
refused_two fine coarse g (NotCoarser m) e h memory (inr is) = inr (not_coarser m h is refl)
refused_two fine coarse g NoMemoryOfTwo e h memory r = inl (memory refl)

module _ {T : Type 0} {out : T → Option (List ℕ)} {faults : T → ℕ} {last : T → Bool} (g : Grammar) (u c : View) where
  -- the text of two views was put
  pub comparison_written : AreSafeViews g u c → (held text : List ℕ) → ComparesViews g u c Done text → held ≡ text → (o p : T) (e : End) → Writes out faults last [] (IsWritten held) o p e → Writes out faults last [] (ComparesViews g u c) o p e
  comparison_written two held text is same o p e writes =
      let now : ComparesViews g u c Done held = subst (ComparesViews g u c Done) (sym same) is in
      writes_alike [] (IsWritten held) (ComparesViews g u c)
      (λ d t h. subst (λ x. ComparesViews g u c x t) (sym h.0) (subst (ComparesViews g u c Done) (sym h.1) now))
      (λ d t h. one_views g u c two d Done t held h now) o p e writes

  -- two views are refused, or memory is wanting, with nothing put
  pub comparison_stops : (o : T) (e : End) → (e ≡ Done → ⊥) → (e ≡ NoMemory) ⊎ ComparesViews g u c e [] → Writes out faults last [] (ComparesViews g u c) o o e
  comparison_stops o e stop (inl wants) = subst (Writes out faults last [] (ComparesViews g u c) o o) (sym wants) (writes_wanting [] (ComparesViews g u c) (begins_nothing (ComparesViews g u c)) o)
  comparison_stops o e stop (inr (told coarser d full x what is text)) = absurd (stop is)
  comparison_stops o e stop (inr (not_coarser m p is text)) = subst (Writes out faults last [] (ComparesViews g u c) o o) (sym is) (record {
    ends = nothing_put [] (ComparesViews g u c) (begins_nothing (ComparesViews g u c)) (Refused (codes "coarse") None (compare_text g (NotCoarser m))) (out o) (out o) (λ w. (cc)) refl (λ w. not_coarser m p refl text);
    cause = refl;
    later = omega arith;
  })
