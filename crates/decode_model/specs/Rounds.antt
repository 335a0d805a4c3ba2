-- Continuing steps, one after another: so many rounds of a cycle, and a rest.
use Rattle.std.specs.Prelude.{◌≡◌, ℕ, zero, suc, ◌↔◌, List, [], ◌∷◌, ◌++◌}
use Rattle.bool_mat.specs.Matrix.{Then, Power}
use Rattle.wf_model.specs.Grammar.{Grammar, Assignment}
use Rattle.wf_model.specs.Reach.{Step, target_of, module_along}
use Rattle.wf_model.specs.Linear.{Continues}
use Rattle.wf_laws.specs.Splits.{IntoAll, OutAll}

-- continuing steps, one after another, from the module m
abbrev pub AreContinuing : Grammar → ℕ → List Step → Type 0
AreContinuing g m [] = Unit {0}
AreContinuing g m (s ∷ steps) = Continues g m s × AreContinuing g (target_of g s) steps

-- continuing steps from the module m back to it
pub record IsRound (g : Grammar) (m : ℕ) (round : List Step) : Type 0 where
  pub continuing : AreContinuing g m round
  pub back : module_along g m round ≡ m

-- a list of steps so many times
abbrev pub times : ℕ → List Step → List Step
times zero round = []
times (suc n) round = round ++ times n round

-- steps are q rounds and a rest. Going down, the rounds come first; going up, the rest comes first
pub record IsPowers (g : Grammar) (d : Assignment) (steps round rest : List Step) (q : ℕ) : Type 0 where
  pub down : (i j : ℕ) → IntoAll g d steps i j ↔ Then (Power (IntoAll g d round) q) (IntoAll g d rest) i j
  pub up : (i j : ℕ) → OutAll g d steps i j ↔ Then (OutAll g d rest) (Power (OutAll g d round) q) i j
