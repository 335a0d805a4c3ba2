-- A proper grammar has no fault.
use Rattle.std.proofs.Common.{ℕ, List, [], ◌∷◌, map, get_or, arith}
use Rattle.wf_model.specs.declared.numbers.ProdNo.{ProdNo}
use Rattle.wf_model.specs.Grammar.{Grammar, body_of}
use Rattle.wf_model.specs.Proper.{IsProper}
use Rattle.wf_check.specs.Improper.{IsUnitCycle, IsFaultOf}
use Rattle.wf_check.specs.declared.fault.CheckFault.{CheckFault}
use Rattle.wf_check.specs.declared.fault.CheckFault.TheVariants.{Unreachable, Unproductive, UnitCycle, NoMemory}
use Rattle.wf_check.proofs.Loops.{only_first, walk_of}

no_unit_cycle : (g : Grammar) (m : ℕ) (ps : List ℕ) → IsProper g → IsUnitCycle g m ps → ⊥
no_unit_cycle g m [] proper h = let none = h.0 in absurd (omega arith)
no_unit_cycle g m (p ∷ ps) proper h =
    proper.no_unit_loop m (get_or (body_of g p) 0 0) (p, h.1.0, h.1.1, only_first (body_of g p) h.1.1) (walk_of g ps (get_or (body_of g p) 0 0) m h.1.2)

pub none_of_proper : (g : Grammar) (f : CheckFault) → IsProper g → IsFaultOf g f → ⊥
none_of_proper g (Unreachable m) proper h = h.fails (proper.reached m.0 h.composite)
none_of_proper g (Unproductive m) proper h = h.1.fails (proper.ranked m.0 h.1.composite)
none_of_proper g (UnitCycle ps) proper h = no_unit_cycle g h.2.module_no (map (λ (x : ProdNo). x.0) ps) proper h.2.cycle
none_of_proper g NoMemory proper h = absurd h
