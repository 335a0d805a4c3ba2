-- How the steps of reading a view make what its bytes tell.
use Rattle.std.proofs.Common.{◌≡◌, ◌⊎◌, ℕ, List, None, refl, sym, subst, inl, inr, ⊎_elim}
use Rattle.wf_model.specs.declared.parts.ViewParts.{ViewParts}
use Rattle.wf_model.specs.Grammar.{Grammar}
use Rattle.wf_model.specs.View.{View}
use Rattle.wf_model.specs.Safe.{IsSafe}
use Rattle.wf_check.specs.Proper.{Ranking, IsRankingOf}
use Rattle.wf_safe.specs.declared.fault.SafeFault.{SafeFault}
use Rattle.wf_safe.specs.declared.fault.SafeFault.TheVariants.{Unsafe}
use Rattle.wf_safe.specs.declared.witness.Witness.{Witness}
use Rattle.wf_safe.specs.Witness.{IsFault}
use Rattle.wf_view.specs.declared.fault.ViewFault.{ViewFault}
use Rattle.wf_view.specs.declared.fault.ViewFault.TheVariants.{NoMemory as NoMemoryOfView}
use Rattle.wf_view.specs.Viewing.{view_of}
use Rattle.wf_view.specs.Rules.{IsViewed, IsFaultOf}
use Rattle.wf_message.specs.Endings.{End, Refused, NoMemory}
use Rattle.wf_safe.specs.WitnessText.{unsafe_text}
use Rattle.wf_view.specs.FaultText.{view_text}
use Rattle.wf_inputs.specs.ViewTold.{IsViewText, TellsView, RefusesUnsafe, RefusesViewParts, RefusesView}
use Rattle.wf_stage.specs.Stages.{OfWhole, Declines}
use Rattle.wf_stage.proofs.Stages.{fault_declines}

module _ (place : List ℕ) where
  -- a fault of parts, or want of memory
  pub view_parts_decline : (g : Grammar) (parts : ViewParts) (f : ViewFault) (e : End) → (f ≡ NoMemoryOfView) ⊎ IsFaultOf g parts f → (f ≡ NoMemoryOfView → e ≡ NoMemory) → (f ≡ NoMemoryOfView) ⊎ (e ≡ Refused place None (view_text f)) → Declines place (OfWhole (RefusesViewParts g) parts) e
  view_parts_decline g parts f e fault = fault_declines place (OfWhole (RefusesViewParts g) parts) NoMemoryOfView f None (view_text f) e (⊎_elim (λ m. inl m) (λ h. inr (refl, inl (f, h, refl))) fault)

  -- a view that is not safe, whose witness was written, or want of memory
  pub unsafe_declines : (g : Grammar) (u : View) (r : Ranking) (f : SafeFault) (w : Witness) (e : End) → IsRankingOf g r → IsFault g u r f → f ≡ Unsafe w →
      (e ≡ NoMemory) ⊎ (e ≡ Refused place None (unsafe_text g w)) → Declines place (OfWhole (RefusesUnsafe g) u) e
  unsafe_declines g u r f w e ranking fault is told =
      let h : IsFault g u r (Unsafe w) = subst (IsFault g u r) is fault in
      ⊎_elim (λ m. subst (Declines place (OfWhole (RefusesUnsafe g) u)) (sym m) tt)
      (λ told. subst (Declines place (OfWhole (RefusesUnsafe g) u)) (sym told) (refl, (refl, (h.0, (r, w, ranking, h.1, refl))))) told

module _ (g : Grammar) (bytes : List ℕ) (parts : ViewParts) (read : IsViewText bytes parts) where
  -- the refusal of parts is one of the bytes that say them
  pub refuses_by_parts : (fault : List ℕ) → RefusesViewParts g parts fault → RefusesView g bytes fault
  refuses_by_parts fault h = inr (read.0, read.1, inr (parts, read.2, h))

  module _ (u : View) (viewed : (u ≡ view_of g parts) × IsViewed g parts) where
    -- so is that of their view
    pub refuses_by_view : (fault : List ℕ) → RefusesUnsafe g u fault → RefusesView g bytes fault
    refuses_by_view fault h = refuses_by_parts fault (inr (viewed.1, subst (λ v. RefusesUnsafe g v fault) viewed.0 h))

    -- a view that is taken is told
    pub told_view : IsSafe g u → TellsView g bytes u
    told_view safe = record { parts = parts; read = read; viewed = viewed.1; is = viewed.0; safe = safe }
