-- A grammar that is proper and strictly linear, and has no earlier versions, has no fault.
use Rattle.std.proofs.Common.{◌≡◌, ℕ, List, [], ◌∷◌, get_or, subst, arith}
use Rattle.std.specs.Prelude.{map}
use Rattle.wf_model.specs.declared.numbers.ProdNo.{ProdNo}
use Rattle.wf_model.specs.Lists.{IsAt}
use Rattle.wf_model.specs.Grammar.{body_of}
use Rattle.wf_model.specs.Proper.{IsProper}
use Rattle.wf_model.specs.Linear.{IsLinear}
use Rattle.wf_spec.specs.Held.{HeldGrammar}
use Rattle.wf_check.specs.declared.fault.CheckFault.{CheckFault}
use Rattle.wf_check.specs.declared.fault.CheckFault.TheVariants.{Unreachable, Unproductive, UnitCycle, NoMemory as NoMemoryOfCheck}
use Rattle.wf_check.specs.Improper.{IsUnitCycle}
use Rattle.wf_check.proofs.Loops.{only_first, walk_of}
use Rattle.wf_recur.proofs.OneLoops.{none_of_linear}
use Rattle.wf_accept.specs.declared.fault.AcceptFault.{AcceptFault}
use Rattle.wf_accept.specs.declared.fault.AcceptFault.TheVariants.{NotProper, NotLinear, VersionChanged, NoMemory}
use Rattle.wf_accept.specs.Faults.{IsFaultOf}

module _ (h : HeldGrammar) where
  no_unit_cycle : (m : ℕ) (ps : List ℕ) → IsProper h.core → IsUnitCycle h.core m ps → ⊥
  no_unit_cycle m [] proper c = let none = c.0 in absurd (omega arith)
  no_unit_cycle m (p ∷ ps) proper c =
      proper.no_unit_loop m (get_or (body_of h.core p) 0 0) (p, c.1.0, c.1.1, only_first (body_of h.core p) c.1.1) (walk_of h.core ps (get_or (body_of h.core p) 0 0) m c.1.2)

  none_of_proper : (f : CheckFault) → IsProper h.core → IsFaultOf h (NotProper f) → ⊥
  none_of_proper (Unreachable m) proper c = c.fails (proper.reached m.0 c.composite)
  none_of_proper (Unproductive m) proper c = c.1.fails (proper.ranked m.0 c.1.composite)
  none_of_proper (UnitCycle ps) proper c = no_unit_cycle c.2.module_no (map (λ (x : ProdNo). x.0) ps) proper c.2.cycle
  none_of_proper NoMemoryOfCheck proper c = absurd c

pub unaccepted : (h : HeldGrammar) → h.versions ≡ [] → (f : AcceptFault) → IsFaultOf h f → IsProper h.core → IsLinear h.core → ⊥
unaccepted h none (NotProper f) fault proper linear = none_of_proper h f proper fault
unaccepted h none (NotLinear f) fault proper linear = none_of_linear h.core f linear fault.1
unaccepted h none (VersionChanged n f) fault proper linear = absurd (subst (IsAt fault.2.version n) none fault.2.is_at)
unaccepted h none NoMemory fault proper linear = absurd fault
