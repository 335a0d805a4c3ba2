-- The skewed grammar: L is expanded to a W and an L, and W joins its ports crosswise. One expansion more turns the pairs over, so the default view is not safe.
use Rattle.std.specs.Prelude.{List, [], ◌∷◌, codes}
use Rattle.wf_model.specs.Grammar.{Grammar}
use Rattle.wf_model.specs.View.{View}
use Rattle.wf_model.specs.DefaultView.{default_view}
use Rattle.wf_model.specs.declared.event.Event.{Event}
use Rattle.wf_model.specs.declared.event.Event.TheVariants.{Start, Expand}
use Rattle.wf_model.specs.Safe.{IsExpansion, Joins, IsSafe}
use Rattle.wf_laws.specs.Examples.{port, edge, at}
use Rattle.wf_laws.specs.TwistingGrammar.{twisting}

-- the modules and pairs of the twisting grammar; L is expanded to a W and an L, or to a T
abbrev pub skewed : Grammar
skewed = record {
  start = 0;
  modules = twisting.modules;
  productions =
      record { head = 0; positions = at "u" 1 ∷ []; edges = []; entries = port 0 0 ∷ port 0 1 ∷ []; exits = port 0 0 ∷ port 0 1 ∷ [] } ∷
      record { head = 1; positions = at "w" 2 ∷ at "l" 1 ∷ []; edges = edge 0 0 1 0 ∷ edge 0 1 1 1 ∷ []; entries = port 0 0 ∷ port 0 1 ∷ []; exits = port 1 0 ∷ port 1 1 ∷ [] } ∷
      record { head = 1; positions = at "t" 3 ∷ []; edges = []; entries = port 0 0 ∷ port 0 1 ∷ []; exits = port 0 0 ∷ port 0 1 ∷ [] } ∷ [];
  given = twisting.given;
}

-- the default view
abbrev pub whole_view : View
whole_view = default_view skewed

-- L is expanded to a T at once
abbrev pub short_run : List Event
short_run = Start (codes "r") ∷ Expand (codes "r") 0 (codes "l0" ∷ []) ∷ Expand (codes "l0") 2 (codes "t" ∷ []) ∷ []

-- L is expanded to a W and an L, and this L to a T
abbrev pub long_run : List Event
long_run =
    Start (codes "r") ∷ Expand (codes "r") 0 (codes "l0" ∷ []) ∷ Expand (codes "l0") 1 (codes "w" ∷ codes "l1" ∷ []) ∷ Expand (codes "l1") 2 (codes "t" ∷ []) ∷ []

-- the two expansions of S disagree on its first input and its first output, so the view is not safe
pub record SkewedGrammarIsWorked : Type 0 where
  pub short_expansion : IsExpansion skewed whole_view 0 short_run
  pub long_expansion : IsExpansion skewed whole_view 0 long_run
  pub short_joins : Joins skewed whole_view 0 short_run 0 0
  pub long_joins_not : ¬ Joins skewed whole_view 0 long_run 0 0
  pub long_joins_across : Joins skewed whole_view 0 long_run 0 1
  pub not_safe : ¬ IsSafe skewed whole_view
