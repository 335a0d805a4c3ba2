-- Parts that form a well-formed grammar, and name no earlier versions, have no fault.
use Rattle.std.proofs.Common.{◌≡◌, ◌≤◌, ℕ, List, [], length, sym, subst, inl, inr, ⊎_elim, arith}
use Rattle.wf_model.specs.declared.parts.Parts.{Parts}
use Rattle.wf_model.specs.Lists.{IsIn}
use Rattle.wf_spec.specs.FirstFaults.{AllHold}
use Rattle.wf_spec.proofs.FirstFaults.{no_fault}
use Rattle.wf_form.specs.declared.fault.FormFault.{FormFault}
use Rattle.wf_form.specs.Forming.{IsFormed, HaveVersions}
use Rattle.wf_form.specs.Rules.{AreKept, first_rules, body_rules, link_rules, version_rules, IsFaultOf}
use Rattle.wf_form.proofs.Lawful.{law}

no_versions : (parts : Parts) → parts.versions ≡ [] → HaveVersions parts
no_versions parts none = record {
  few = subst (λ vs. length vs ≤ 64) (sym none) (omega arith);
  each = λ v i. absurd (subst (IsIn v) none i);
}

pub unformed : (parts : Parts) → parts.versions ≡ [] → (f : FormFault) → IsFaultOf parts f → IsFormed parts → ⊥
unformed parts none f fault formed = go ((law parts).0.1 formed) ((law parts).1.1 (no_versions parts none)) fault
  where
    go : AreKept parts → AllHold (version_rules parts) → IsFaultOf parts f → ⊥
    go k v (inl p) = no_fault (first_rules parts) f k.first p
    go k v (inr p) = ⊎_elim (λ a. no_fault (body_rules parts) f k.bodies a) (λ a. ⊎_elim (λ b. no_fault (link_rules parts) f k.links b) (λ b. no_fault (version_rules parts) f v b.1) a.1) p.1
