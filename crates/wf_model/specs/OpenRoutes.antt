-- Routes through modules that a view expands.
use Rattle.std.specs.Prelude.{◌≡◌, ℕ, ◌<◌, IsTrue, List, [], ◌∷◌, length}
use Rattle.wf_model.specs.Grammar.{Grammar, head_of, body_of}
use Rattle.wf_model.specs.View.{View, expands, IsSeenModule}
use Rattle.wf_model.specs.Reach.{Step, target_of}

-- a step of a seen, expanded module
pub record IsOpenStep (g : Grammar) (u : View) (s : Step) : Type 0 where
  pub in_range : s.production < length g.productions
  pub seen : IsSeenModule g u (head_of g s.production)
  pub expanded : IsTrue (expands u (head_of g s.production))
  pub position : s.position < length (body_of g s.production)

-- an open route: steps, one after another from the module m, each of a seen, expanded module
abbrev pub IsOpenRoute : Grammar → View → ℕ → List Step → Type 0
IsOpenRoute g u m [] = Unit {0}
IsOpenRoute g u m (s ∷ steps) = IsOpenStep g u s × (head_of g s.production ≡ m) × IsOpenRoute g u (target_of g s) steps
