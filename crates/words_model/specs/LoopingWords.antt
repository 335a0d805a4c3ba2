-- A worked view that, lifted, is not safe: a module is expanded to P, or to P and itself, and an automaton counts whether the P's are odd or even.
use Rattle.std.specs.Prelude.{List, [], ◌∷◌, codes}
use Rattle.wf_model.specs.Grammar.{Grammar}
use Rattle.wf_model.specs.View.{View}
use Rattle.wf_model.specs.declared.event.Event.{Event}
use Rattle.wf_model.specs.declared.event.Event.TheVariants.{Start, Expand}
use Rattle.wf_model.specs.Safe.{IsExpansion, Joins, IsSafe}
use Rattle.wf_laws.specs.Examples.{a_module, at, port, edge}
use Rattle.words_model.specs.Automata.{Automaton}
use Rattle.words_model.specs.Lifting.{lift, lift_view}

-- L and P have input x and output y; L is expanded to p of P and l of L, one after the other, or to p of P alone
abbrev pub looping : Grammar
looping = record {
  start = 0;
  modules = a_module "L" (codes "x" ∷ []) (codes "y" ∷ []) ∷ a_module "P" (codes "x" ∷ []) (codes "y" ∷ []) ∷ [];
  productions =
      record { head = 0; positions = at "p" 1 ∷ at "l" 0 ∷ []; edges = edge 0 0 1 0 ∷ []; entries = port 0 0 ∷ []; exits = port 1 0 ∷ [] } ∷
      record { head = 0; positions = at "p" 1 ∷ []; edges = []; entries = port 0 0 ∷ []; exits = port 0 0 ∷ [] } ∷ [];
  given = [];
}

-- L is expanded, and P has its pair
abbrev pub open_view : View
open_view = record { expanded = 0 ∷ []; shown = [] ∷ ((0, 0) ∷ []) ∷ [] }

-- each P leads from either state to the other; odd numbers of them are accepted
abbrev pub odd : Automaton
odd = record { states = 2; start = 0; accept = 1 ∷ []; moves = record { from = 0; module_no = 1; to = 1 } ∷ record { from = 1; module_no = 1; to = 0 } ∷ [] }

-- a run with one P
abbrev pub one_p : List Event
one_p = Start (codes "r") ∷ Expand (codes "r") 1 (codes "p0" ∷ []) ∷ []

-- a run with two
abbrev pub two_p : List Event
two_p = Start (codes "r") ∷ Expand (codes "r") 0 (codes "p0" ∷ codes "l0" ∷ []) ∷ Expand (codes "l0") 1 (codes "p1" ∷ []) ∷ []

-- both are expansions; without states they join the same ports, and with states they do not
pub record LoopingWordsAreWorked : Type 0 where
  pub one_expansion : IsExpansion looping open_view 0 one_p
  pub two_expansion : IsExpansion looping open_view 0 two_p
  pub one_joins : Joins looping open_view 0 one_p 0 0
  pub two_joins : Joins looping open_view 0 two_p 0 0
  -- one P leads from the first state to the second alone, and two lead back to the first alone
  pub one_to_second : Joins (lift looping 2) (lift_view odd open_view) 0 one_p 0 1
  pub one_not_to_first : ¬ Joins (lift looping 2) (lift_view odd open_view) 0 one_p 0 0
  pub two_to_first : Joins (lift looping 2) (lift_view odd open_view) 0 two_p 0 0
  pub two_not_to_second : ¬ Joins (lift looping 2) (lift_view odd open_view) 0 two_p 0 1
  pub not_safe : ¬ IsSafe (lift looping 2) (lift_view odd open_view)
