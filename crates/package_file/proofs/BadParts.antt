-- Why parts are not those of a package.
use Rattle.std.proofs.Common.{◌≡◌, ◌⊎◌, List, [], sym, subst, inl, inr}
use Rattle.wf_model.specs.declared.parts.Parts.{Parts}
use Rattle.wf_model.specs.Proper.{IsProper}
use Rattle.wf_model.specs.Linear.{IsLinear}
use Rattle.wf_spec.specs.Held.{HeldGrammar}
use Rattle.wf_form.specs.declared.fault.FormFault.{FormFault}
use Rattle.wf_form.specs.declared.fault.FormFault.TheVariants as form
use Rattle.wf_form.specs.Forming.{IsFormed}
use Rattle.wf_form.specs.Rules.{IsFaultOf as IsFaultOfParts}
use Rattle.wf_accept.specs.declared.fault.AcceptFault.{AcceptFault}
use Rattle.wf_accept.specs.declared.fault.AcceptFault.TheVariants as accept
use Rattle.wf_accept.specs.Faults.{IsFaultOf as IsFaultOfGrammar}
use Rattle.package_file.specs.declared.fault.PackFault.{PackFault}
use Rattle.package_file.specs.declared.fault.PackFault.TheVariants.{BadPackage, NoMemory}
use Rattle.package_file.specs.Packed.{IsBadUnless}
use Rattle.package_file.proofs.Unformed.{unformed}
use Rattle.package_file.proofs.Unaccepted.{unaccepted}

no_memory_said : (Asked : Type 0) (r : PackFault) → r ≡ NoMemory → IsBadUnless Asked r
no_memory_said Asked r e = subst (IsBadUnless Asked) (sym e) tt

bad_said : (Asked : Type 0) (r : PackFault) → r ≡ BadPackage → (Asked → ⊥) → IsBadUnless Asked r
bad_said Asked r e none = subst (IsBadUnless Asked) (sym e) none

-- what is told of a fault: want of memory, or that it is not as asked
told_bad : (Memory Fault Asked : Type 0) (r : PackFault) → Memory ⊎ Fault → (Memory → r ≡ NoMemory) → (r ≡ NoMemory) ⊎ (r ≡ BadPackage) → (Fault → Asked → ⊥) → IsBadUnless Asked r
told_bad Memory Fault Asked r (inl m) memory told none = no_memory_said Asked r (memory m)
told_bad Memory Fault Asked r (inr f) memory (inl e) none = no_memory_said Asked r e
told_bad Memory Fault Asked r (inr f) memory (inr e) none = bad_said Asked r e (none f)

-- of parts that form no grammar
pub form_said : (parts : Parts) (f : FormFault) (r : PackFault) → parts.versions ≡ [] → (f ≡ form.NoMemory) ⊎ IsFaultOfParts parts f → (f ≡ form.NoMemory → r ≡ NoMemory) → (r ≡ NoMemory) ⊎ (r ≡ BadPackage) → IsBadUnless (IsFormed parts) r
form_said parts f r none why memory told = told_bad (f ≡ form.NoMemory) (IsFaultOfParts parts f) (IsFormed parts) r why memory told (unformed parts none f)

-- of a grammar that is not accepted
pub accept_said : (h k : HeldGrammar) (f : AcceptFault) (r : PackFault) → h.versions ≡ [] → (k ≡ h) × ((f ≡ accept.NoMemory) ⊎ IsFaultOfGrammar h f) → (f ≡ accept.NoMemory → r ≡ NoMemory) → (r ≡ NoMemory) ⊎ (r ≡ BadPackage) → IsBadUnless (IsProper h.core × IsLinear h.core) r
accept_said h k f r none why memory told =
    told_bad (f ≡ accept.NoMemory) (IsFaultOfGrammar h f) (IsProper h.core × IsLinear h.core) r why.1 memory told (λ fault good. unaccepted h none f fault good.0 good.1)
