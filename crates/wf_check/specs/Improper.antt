-- Why a grammar is not proper: the first fault in the order of trial.
use Rattle.std.specs.Prelude.{◌≡◌, ℕ, ◌<◌, ◌≤◌, List, [], ◌∷◌, map, length, get_or}
use Rattle.wf_model.specs.declared.numbers.ProdNo.{ProdNo}
use Rattle.wf_model.specs.Grammar.{Grammar, body_of, IsComposite, IsProductionOf}
use Rattle.wf_model.specs.Proper.{Derives, RankWithin}
pub use Rattle.wf_graph.specs.Routes.{IsFirstOf}
use Rattle.wf_check.specs.declared.fault.CheckFault.{CheckFault}
use Rattle.wf_check.specs.declared.fault.CheckFault.TheVariants.{Unreachable, Unproductive, UnitCycle, NoMemory}

-- a composite module is derived from the start module
abbrev pub IsReached : Grammar → ℕ → Type 0
IsReached g m = Derives g g.start m

-- a module has an expansion that ends
abbrev pub IsProductive : Grammar → ℕ → Type 0
IsProductive g m = (n : ℕ) × RankWithin g n m

-- the least composite module of which this does not hold
pub record IsLeastWithout (g : Grammar) (Holds : ℕ → Type 0) (m : ℕ) : Type 0 where
  pub composite : IsComposite g m
  pub fails : ¬ Holds m
  pub before : (k : ℕ) → k < m → IsComposite g k → Holds k

-- it holds of all composite modules
abbrev pub OfAllComposite : Grammar → (ℕ → Type 0) → Type 0
OfAllComposite g Holds = (m : ℕ) → IsComposite g m → Holds m

-- unit productions lead from a to b, one after another
abbrev pub UnitPath : Grammar → ℕ → List ℕ → ℕ → Type 0
UnitPath g a [] b = a ≡ b
UnitPath g a (p ∷ ps) b = IsProductionOf g p a × (length (body_of g p) ≡ 1) × UnitPath g (get_or (body_of g p) 0 0) ps b

-- at least one unit production leads from m back to it
abbrev pub IsUnitCycle : Grammar → ℕ → List ℕ → Type 0
IsUnitCycle g m ps = (0 < length ps) × UnitPath g m ps m

-- The cycle that is told: it begins at the least module that is on one, is shortest, and is the first of the shortest
pub record IsToldCycle (g : Grammar) (ps : List ℕ) : Type 0 where
  pub module_no : ℕ
  pub cycle : IsUnitCycle g module_no ps
  pub least : (k : ℕ) (qs : List ℕ) → k < module_no → ¬ IsUnitCycle g k qs
  pub shortest : (qs : List ℕ) → IsUnitCycle g module_no qs → length ps ≤ length qs
  pub first : (qs : List ℕ) → IsUnitCycle g module_no qs → length qs ≡ length ps → IsFirstOf ps qs

-- the fault of a grammar that is not proper
abbrev pub IsFaultOf : Grammar → CheckFault → Type 0
IsFaultOf g (Unreachable m) = IsLeastWithout g (IsReached g) m.0
IsFaultOf g (Unproductive m) = OfAllComposite g (IsReached g) × IsLeastWithout g (IsProductive g) m.0
IsFaultOf g (UnitCycle ps) = OfAllComposite g (IsReached g) × OfAllComposite g (IsProductive g) × IsToldCycle g (map (λ (p : ProdNo). p.0) ps)
IsFaultOf g NoMemory = ⊥
