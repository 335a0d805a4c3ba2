-- Lists of steps from the start module to a module, through modules that a view expands, and the first of the shortest.
use Rattle.std.specs.Prelude.{◌≡◌, ℕ, ◌<◌, ◌≤◌, ◌⊎◌, List, [], ◌∷◌, length}
use Rattle.wf_model.specs.Grammar.{Grammar}
use Rattle.wf_model.specs.View.{View}
use Rattle.wf_model.specs.Reach.{Step, module_along}
use Rattle.wf_model.specs.OpenRoutes.{IsOpenRoute}

-- steps that lead to the module m, each of a module that the view expands
abbrev pub LeadsTo : Grammar → View → ℕ → List Step → Type 0
LeadsTo g c m a = IsOpenRoute g c g.start a × (module_along g g.start a ≡ m)

-- the one step comes before the other: by production, then by position
abbrev pub IsEarlier : Step → Step → Type 0
IsEarlier s t = (s.production < t.production) ⊎ ((s.production ≡ t.production) × (s.position < t.position))

-- of two lists as long, the one is the other, or has the earlier step where they first differ
abbrev pub ComesFirst : List Step → List Step → Type 0
ComesFirst [] b = Unit {0}
ComesFirst (s ∷ a) [] = ⊥
ComesFirst (s ∷ a) (t ∷ b) = IsEarlier s t ⊎ ((s ≡ t) × ComesFirst a b)

-- the fewest steps that lead to the module; of all that are as few the first, as they are compared one by one
pub record IsFirstShortestRoute (g : Grammar) (c : View) (m : ℕ) (a : List Step) : Type 0 where
  pub leads : LeadsTo g c m a
  pub fewest : (b : List Step) → LeadsTo g c m b → length a ≤ length b
  pub first : (b : List Step) → LeadsTo g c m b → length b ≡ length a → ComesFirst a b
