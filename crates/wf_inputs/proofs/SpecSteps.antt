-- How the steps of reading a specification make what its bytes tell.
use Rattle.std.proofs.Common.{◌≡◌, ◌⊎◌, ℕ, List, None, refl, sym, subst, inl, inr, ⊎_elim}
use Rattle.std.specs.Prelude.{codes}
use Rattle.wf_model.specs.declared.parts.Parts.{Parts}
use Rattle.wf_spec.specs.Held.{HeldGrammar}
use Rattle.wf_model.specs.Proper.{IsProper}
use Rattle.wf_model.specs.Linear.{IsLinear}
use Rattle.wf_form.specs.declared.fault.FormFault.{FormFault}
use Rattle.wf_form.specs.declared.fault.FormFault.TheVariants.{NoMemory as NoMemoryOfForm}
use Rattle.wf_form.specs.Forming.{held_of, IsFormed, HaveVersions}
use Rattle.wf_form.specs.Rules.{IsFaultOf}
use Rattle.wf_accept.specs.declared.fault.AcceptFault.{AcceptFault}
use Rattle.wf_accept.specs.declared.fault.AcceptFault.TheVariants.{NotProper, NotLinear, VersionChanged, NoMemory as NoMemoryOfGrammar}
use Rattle.wf_accept.specs.Faults.{IsFaultOf as IsUnaccepted}
use Rattle.wf_message.specs.Endings.{End, Refused, NoMemory}
use Rattle.wf_form.specs.FaultText.{form_text}
use Rattle.wf_accept.specs.FaultText.{accept_text}
use Rattle.wf_inputs.specs.Specification.{IsSpecText, AllKeepCycles, TellsGrammar, RefusesGrammar, RefusesParts, RefusesSpec}
use Rattle.wf_stage.specs.Stages.{OfWhole, Declines}
use Rattle.wf_stage.proofs.Stages.{fault_declines}

-- a fault of parts, or want of memory
pub parts_decline : (parts : Parts) (f : FormFault) (e : End) → (f ≡ NoMemoryOfForm) ⊎ IsFaultOf parts f → (f ≡ NoMemoryOfForm → e ≡ NoMemory) → (f ≡ NoMemoryOfForm) ⊎ (e ≡ Refused (codes "spec") None (form_text f)) → Declines (codes "spec") (OfWhole RefusesParts parts) e
parts_decline parts f e fault = fault_declines (codes "spec") (OfWhole RefusesParts parts) NoMemoryOfForm f None (form_text f) e (⊎_elim (λ m. inl m) (λ h. inr (refl, inl (f, h, refl))) fault)

-- the first fault of a grammar is a reason to refuse it
refuses_by : (h : HeldGrammar) (f : AcceptFault) → IsUnaccepted h f → RefusesGrammar h (accept_text h.core f)
refuses_by h (NotProper f) x = inl (f, x, refl)
refuses_by h (NotLinear f) x = inr (x.0, inl (f, x.1, refl))
refuses_by h (VersionChanged n f) x = inr (x.0, inr (x.1, (n, f, x.2, refl)))
refuses_by h NoMemoryOfGrammar x = absurd x

-- a fault of a grammar whose text was written, or want of memory
pub grammar_declines : (h : HeldGrammar) (f : AcceptFault) (e : End) → (f ≡ NoMemoryOfGrammar) ⊎ IsUnaccepted h f → (f ≡ NoMemoryOfGrammar → e ≡ NoMemory) →
    (e ≡ NoMemory) ⊎ (e ≡ Refused (codes "spec") None (accept_text h.core f)) → Declines (codes "spec") (OfWhole RefusesGrammar h) e
grammar_declines h f e fault memory told =
    ⊎_elim (λ m. subst (Declines (codes "spec") (OfWhole RefusesGrammar h)) (sym m) tt)
    (λ r. fault_declines (codes "spec") (OfWhole RefusesGrammar h) NoMemoryOfGrammar f None (accept_text h.core f) e (⊎_elim (λ m. inl m) (λ x. inr (refl, refuses_by h f x)) fault) memory (inr r)) told

module _ (bytes : List ℕ) (parts : Parts) (read : IsSpecText bytes parts) where
  -- the refusal of parts is one of the bytes that say them
  pub refuses_by_parts : (fault : List ℕ) → RefusesParts parts fault → RefusesSpec bytes fault
  refuses_by_parts fault h = inr (read.0, read.1, inr (parts, read.2, h))

  module _ (h : HeldGrammar) (formed : (h ≡ held_of parts) × IsFormed parts × HaveVersions parts) where
    -- so is that of their grammar
    pub refuses_by_grammar : (fault : List ℕ) → RefusesGrammar h fault → RefusesSpec bytes fault
    refuses_by_grammar fault r = refuses_by_parts fault (inr (formed.1, formed.2, subst (λ x. RefusesGrammar x fault) formed.0 r))

    -- a grammar that is taken is told
    pub told_grammar : IsProper h.core → IsLinear h.core → AllKeepCycles h → TellsGrammar bytes h
    told_grammar proper linear keeps = record {
      parts = parts;
      read = read;
      formed = formed.1;
      versions = formed.2;
      proper = subst (λ (x : HeldGrammar). IsProper x.core) formed.0 proper;
      linear = subst (λ (x : HeldGrammar). IsLinear x.core) formed.0 linear;
      keeps = subst AllKeepCycles formed.0 keeps;
      is = formed.0;
    }
