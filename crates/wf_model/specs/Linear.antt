-- Strictly linear grammars, and the numbers of their cycles.
use Rattle.std.specs.Prelude.{◌≡◌, ℕ, zero, suc, ◌<◌, ◌≤◌, List, length}
use Rattle.wf_model.specs.Lists.{IsIn, IsAt, Walk}
use Rattle.wf_model.specs.Grammar.{Grammar, head_of, body_of}
use Rattle.wf_model.specs.Proper.{Derives}
use Rattle.wf_model.specs.Reach.{Step, target_of}

-- a step of the module m: a production of it and a position of that production
pub record IsStepOf (g : Grammar) (m : ℕ) (s : Step) : Type 0 where
  pub in_range : s.production < length g.productions
  pub head : head_of g s.production ≡ m
  pub position : s.position < length (body_of g s.production)

-- a continuing step of m: its target reaches m again. A module reaches itself, and whatever a list of steps leads to
abbrev pub Continues : Grammar → ℕ → Step → Type 0
Continues g m s = IsStepOf g m s × Derives g (target_of g s) m

-- a grammar is strictly linear where each module has at most one continuing step
abbrev pub IsLinear : Grammar → Type 0
IsLinear g = (m : ℕ) (s t : Step) → Continues g m s → Continues g m t → s ≡ t

-- a module stands on a cycle where it has a continuing step
abbrev pub IsOnCycle : Grammar → ℕ → Type 0
IsOnCycle g m = (s : Step) × Continues g m s

-- b is the target of the continuing step of a
abbrev pub GoesOn : Grammar → ℕ → ℕ → Type 0
GoesOn g a b = (s : Step) × Continues g a s × (target_of g s ≡ b)

-- n continuing steps lead from a to b
abbrev pub GoesOnBy : Grammar → ℕ → ℕ → ℕ → Type 0
GoesOnBy g zero a b = a ≡ b
GoesOnBy g (suc n) a b = (c : ℕ) × GoesOn g a c × GoesOnBy g n c b

-- the module m is the least of its cycle
abbrev pub IsLeast : Grammar → ℕ → Type 0
IsLeast g m = IsOnCycle g m × ((k : ℕ) → Walk (GoesOn g) m k → m ≤ k)

-- the place of m in the cycle of which l is the least module: the fewest continuing steps from l to m
abbrev pub IsPlaceFrom : Grammar → ℕ → ℕ → ℕ → Type 0
IsPlaceFrom g l n m = GoesOnBy g n l m × ((k : ℕ) → GoesOnBy g k l m → n ≤ k)

-- the length of the cycle of l: the fewest continuing steps, at least one, that lead back
abbrev pub IsCycleLength : Grammar → ℕ → ℕ → Type 0
IsCycleLength g l n = (0 < n) × GoesOnBy g n l l × ((k : ℕ) → 0 < k → GoesOnBy g k l l → n ≤ k)

-- the least modules of all cycles, in order: cycle c is that of the c-th of them
pub record AreCycles (g : Grammar) (leasts : List ℕ) : Type 0 where
  pub in_order : (j k a b : ℕ) → j < k → IsAt a j leasts → IsAt b k leasts → a < b
  pub each : (m : ℕ) → IsIn m leasts → IsLeast g m
  pub all : (m : ℕ) → IsLeast g m → IsIn m leasts
