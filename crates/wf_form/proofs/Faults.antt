-- The fault of parts, by the group of rules in which it is found.
use Rattle.std.proofs.Common.{◌≡◌, ◌⊎◌, List, [], ◌∷◌, ℕ, zero, suc, take, sym, ap, ◌∙◌, inl, inr, ⊎_elim}
use Rattle.wf_model.specs.declared.parts.Parts.{Parts}
use Rattle.wf_model.specs.Grammar.{Module}
use Rattle.wf_form.specs.declared.fault.FormFault.{FormFault}
use Rattle.wf_form.specs.declared.fault.FormFault.TheVariants.{NoMemory}
use Rattle.wf_spec.specs.Naming.{names_of}
use Rattle.wf_form.specs.Forming.{modules_of, IsFormed}
use Rattle.wf_form.specs.Rules.{module_names, first_rules, body_rules, link_rules, version_rules, IsFaultOf, AreKept}
use Rattle.wf_spec.specs.FirstFaults.{Rule, AllHold, IsFirstFault}
use Rattle.wf_form.proofs.Kept.{kept_gives}
use Rattle.wf_form.proofs.Lawful.{same_names, kept_formed}

-- a fault of the first n rules is the fault of all
pub fault_of_start : (n : ℕ) (rs : List (Rule FormFault)) (f : FormFault) → IsFirstFault (take n rs) f → IsFirstFault rs f
fault_of_start zero rs f h = absurd h
fault_of_start (suc n) [] f h = absurd h
fault_of_start (suc n) (r ∷ rs) f (inl h) = inl h
fault_of_start (suc n) (r ∷ rs) f (inr h) = inr (h.0, fault_of_start n rs f h.1)

-- or want of memory
pub told_of_start : (n : ℕ) (rs : List (Rule FormFault)) (f : FormFault) → (f ≡ NoMemory) ⊎ IsFirstFault (take n rs) f → (f ≡ NoMemory) ⊎ IsFirstFault rs f
told_of_start n rs f (inl e) = inl e
told_of_start n rs f (inr h) = inr (fault_of_start n rs f h)

-- a fault that is found among the first rules
pub first_fault : (parts : Parts) (f : FormFault) → (f ≡ NoMemory) ⊎ IsFirstFault (first_rules parts) f → (f ≡ NoMemory) ⊎ IsFaultOf parts f
first_fault parts f h = ⊎_elim (λ e. inl e) (λ b. inr (inl b)) h

-- one that is found among those on bodies, where the first hold
pub body_fault : (parts : Parts) (f : FormFault) → AllHold (first_rules parts) → (f ≡ NoMemory) ⊎ IsFirstFault (body_rules parts) f → (f ≡ NoMemory) ⊎ IsFaultOf parts f
body_fault parts f first h = ⊎_elim (λ e. inl e) (λ b. inr (inr (first, inl b))) h

-- one that is found among those on links, where those before them hold
pub link_fault : (parts : Parts) (f : FormFault) → AllHold (first_rules parts) → AllHold (body_rules parts) → (f ≡ NoMemory) ⊎ IsFirstFault (link_rules parts) f → (f ≡ NoMemory) ⊎ IsFaultOf parts f
link_fault parts f first bodies h = ⊎_elim (λ e. inl e) (λ b. inr (inr (first, inr (bodies, inl b)))) h

-- one that is found among those on versions, where all others hold
pub version_fault : (parts : Parts) (f : FormFault) → AreKept parts → (f ≡ NoMemory) ⊎ IsFirstFault (version_rules parts) f → (f ≡ NoMemory) ⊎ IsFaultOf parts f
version_fault parts f kept h = ⊎_elim (λ e. inl e) (λ b. inr (inr (kept.first, inr (kept.bodies, inr (kept.links, b))))) h

-- the names of modules, as they are read
pub names_read : (parts : Parts) (modules : List Module) (names : List (List ℕ)) → modules ≡ modules_of parts → names ≡ module_names parts.modules → names ≡ names_of modules
names_read parts modules names are is = is ∙ sym (ap names_of are ∙ same_names parts)

-- parts that keep all rules but those on versions form a grammar
pub form : (parts : Parts) → AreKept parts → IsFormed parts
form parts kept = kept_formed parts (kept_gives parts kept)
