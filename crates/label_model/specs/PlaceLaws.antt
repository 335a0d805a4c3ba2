-- Laws of places: place and address tell each other, and a place visits each strong component once.
use Rattle.std.specs.Prelude.{◌≡◌, ◌≢◌, ◌↔◌, ℕ, ◌+◌, ◌^◌, ◌<◌, ◌≤◌, List, [], ◌∷◌, ◌++◌, length, Some, None}
use Rattle.wf_model.specs.Grammar.{Grammar, alternative_of}
use Rattle.wf_model.specs.WellFormed.{IsWellFormed}
use Rattle.wf_model.specs.Reach.{Step, target_of, module_along}
use Rattle.wf_model.specs.Linear.{IsLinear}
use Rattle.label_model.specs.Continuing.{continuing}
use Rattle.label_model.specs.Labels.{Place, IsPlace}
use Rattle.label_model.specs.Places.{chain_at, steps_from, chain_from, place_of, IsEnding}
use Rattle.label_model.specs.Bound.{components, cycles, chains}

-- the places at a module are those of the addresses that leave it and their endings, each of one of them; an address of 2^24 steps or more may have a chain number that is too large
abbrev pub PlaceLaw : Type 0
PlaceLaw =
    (g : Grammar) → IsWellFormed g → (m : ℕ) →
    record {
      valid : (a : List Step) (p e : ℕ) → IsEnding g m a p e → length a < 2 ^ 24 → IsPlace g m (place_of g m a p e);
      one : (a b : List Step) (p q e f : ℕ) → IsEnding g m a p e → IsEnding g m b q f → place_of g m a p e ≡ place_of g m b q f → (a ≡ b) × (p ≡ q) × (e ≡ f);
      each : (x : Place) → IsPlace g m x → (a : List Step) × (p : ℕ) × (e : ℕ) × IsEnding g m a p e × (place_of g m a p e ≡ x);
    }

-- What is told of an address with one step more. By the continuing step it has the steps of the address, and a chain number one higher.
-- By any other step it has one step more, with the chain number of the address, and its chain begins anew
abbrev pub PrefixLaw : Type 0
PrefixLaw =
    (g : Grammar) → IsWellFormed g → (m : ℕ) (a : List Step) →
    record {
      on_cycle : (chain_from g m 0 a ≡ None) ↔ (continuing g (module_along g m a) ≡ None);
      goes_on : (s : Step) (c : ℕ) → continuing g (module_along g m a) ≡ Some s → chain_from g m 0 a ≡ Some c → (steps_from g m 0 (a ++ s ∷ []) ≡ steps_from g m 0 a) × (chain_from g m 0 (a ++ s ∷ []) ≡ Some (c + 1));
      leaves : (s : Step) → continuing g (module_along g m a) ≢ Some s →
          (steps_from g m 0 (a ++ s ∷ []) ≡ steps_from g m 0 a ++ record { chain = chain_from g m 0 a; alternative = alternative_of g s.production; position = s.position } ∷ []) ×
          (chain_from g m 0 (a ++ s ∷ []) ≡ chain_at g (target_of g s) 0);
    }

-- a place enters each strong component once, so it has fewer steps than there are components, and no more chain numbers than there are cycles
abbrev pub OneVisitLaw : Type 0
OneVisitLaw = (g : Grammar) → IsWellFormed g → IsLinear g → (m : ℕ) (p : Place) → m < length g.modules → IsPlace g m p → (length p.steps < components g) × (chains p ≤ cycles g)
