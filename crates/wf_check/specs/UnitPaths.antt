-- Paths along unit productions.
use Rattle.std.specs.Prelude.{◌≡◌, ℕ, ◌<◌, ◌≤◌, ◌==◌, cond, List, [], ◌∷◌, length, Vec}
use Rattle.std.specs.declared.alloc.Global.{Global}
use Rattle.wf_model.specs.Lists.{IsIn}
use Rattle.wf_graph.specs.Graph.{nexts}
use Rattle.wf_check.specs.declared.unit.rule.UnitRule.{UnitRule}

-- the unit production p leads from a to b
abbrev pub Turns : List UnitRule → ℕ → ℕ → ℕ → Type 0
Turns units p a b = (u : UnitRule) × IsIn u units × (u.number.0 ≡ p) × (u.head.0 ≡ a) × (u.target.0 ≡ b)

-- unit productions lead from a to b, one after another
abbrev pub LeadTo : List UnitRule → ℕ → List ℕ → ℕ → Type 0
LeadTo units a [] b = a ≡ b
LeadTo units a (p ∷ ps) b = (c : ℕ) × Turns units p a c × LeadTo units c ps b

-- at least one unit production leads from m back to it
abbrev pub IsOnCycle : List UnitRule → ℕ → Type 0
IsOnCycle units m = (ps : List ℕ) × (0 < length ps) × LeadTo units m ps m

-- the modules to which the unit productions of a module lead, in the order of the productions
abbrev pub targets_of : List UnitRule → ℕ → List ℕ
targets_of [] m = []
targets_of (u ∷ us) m = cond (u.head.0 == m) (u.target.0 ∷ targets_of us m) (targets_of us m)

-- the edges of a graph are the unit productions, in their order
abbrev pub IsGraphOf : List UnitRule → List (Vec ℕ Global) → Type 0
IsGraphOf units graph = (m : ℕ) → nexts graph m ≡ targets_of units m

-- the unit production of least number that leads from a to b
pub record IsFirstTurn (units : List UnitRule) (a b p : ℕ) : Type 0 where
  pub turns : Turns units p a b
  pub first : (q : ℕ) → Turns units q a b → p ≤ q

-- the unit productions of least numbers that lead along modules, behind a
abbrev pub AreFirstTurns : List UnitRule → ℕ → List ℕ → List ℕ → Type 0
AreFirstTurns units a [] [] = Unit {0}
AreFirstTurns units a [] (p ∷ ps) = ⊥
AreFirstTurns units a (w ∷ ws) [] = ⊥
AreFirstTurns units a (w ∷ ws) (p ∷ ps) = IsFirstTurn units a w p × AreFirstTurns units w ws ps
