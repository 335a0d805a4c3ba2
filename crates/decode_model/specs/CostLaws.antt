-- Laws of how many row products a query takes at most.
use Rattle.std.specs.Prelude.{ℕ, ◌+◌, ◌≤◌, List, [], ◌∷◌, ◌++◌, length}
use Rattle.wf_model.specs.Grammar.{Grammar, IsComposite}
use Rattle.wf_model.specs.WellFormed.{IsWellFormed}
use Rattle.wf_model.specs.Reach.{Step}
use Rattle.wf_model.specs.Linear.{IsOnCycle}
use Rattle.label_model.specs.Bound.{components, cycles}
use Rattle.decode_model.specs.Matrices.{ViewMatrices}
use Rattle.decode_model.specs.Legs.{Leg, way_down, way_up, crossing}
use Rattle.decode_model.specs.Costs.{cost, AreShort, IsLeft}
use Rattle.decode_model.specs.Counts.{IsLegsOfPlace, Numbers, most_products}

-- a way takes at most one row product for a single step, and 23 and the length of the longest cycle for a chain
abbrev pub CostLaw : Type 0
CostLaw =
    (v : ViewMatrices) (l : ℕ) (legs : List Leg) → AreShort l legs →
    record {
      down : length (way_down v legs) ≤ cost l legs;
      up : length (way_up v legs) ≤ cost l legs;
    }

-- what is left of a way takes no more than the whole way
abbrev pub LeftLaw : Type 0
LeftLaw =
    (l : ℕ) (rest legs : List Leg) → IsLeft rest legs →
    record {
      no_more : cost l rest ≤ cost l legs;
      short : AreShort l legs → AreShort l rest;
    }

-- the composite modules have numbers below that of their strong components, and the modules on cycles have numbers below that of the cycles
abbrev pub NumbersLaw : Type 0
NumbersLaw =
    (g : Grammar) → IsWellFormed g →
    record {
      composites : (component : ℕ → ℕ) × Numbers g (IsComposite g) component (components g);
      on_cycles : (cycle : ℕ → ℕ) × Numbers g (IsOnCycle g) cycle (cycles g);
    }

-- a place enters each strong component once, so two places and two row products more take no more than a query may
abbrev pub CountLaw : Type 0
CountLaw =
    (g : Grammar) → IsWellFormed g → (l m : ℕ) (a b : List Leg) → IsLegsOfPlace g m a → IsLegsOfPlace g m b → cost l a + cost l b + 2 ≤ most_products g l

-- Across a body, what is left of two places takes no more row products than a query may; down alone and up alone, what is left of one place does not
abbrev pub ProductsLaw : Type 0
ProductsLaw =
    (g : Grammar) → IsWellFormed g → (v : ViewMatrices) (l m : ℕ) →
    record {
      across : (first second a b : List Leg) (s t : Step) → IsLegsOfPlace g m first → IsLegsOfPlace g m second → AreShort l first → AreShort l second → IsLeft a first → IsLeft b second →
          length (crossing g v s a t b) ≤ most_products g l;
      down : (second b : List Leg) (n : ℕ) → IsLegsOfPlace g m second → AreShort l second → IsLeft b second → length (way_down v b ++ v.full n ∷ []) ≤ most_products g l;
      up : (first a : List Leg) → IsLegsOfPlace g m first → AreShort l first → IsLeft a first → length (way_up v a) ≤ most_products g l;
    }
