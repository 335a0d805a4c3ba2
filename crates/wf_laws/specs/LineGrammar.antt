-- The line grammar: S is expanded to a P and a Q, one after the other. A run of it, its links and its dependencies.
use Rattle.std.specs.Prelude.{◌≡◌, true, List, [], ◌∷◌, Some, None, codes}
use Rattle.wf_model.specs.Grammar.{Grammar, Assignment}
use Rattle.wf_model.specs.WellFormed.{IsWellFormed}
use Rattle.wf_model.specs.Proper.{IsProper}
use Rattle.wf_model.specs.Linear.{IsLinear}
use Rattle.wf_model.specs.View.{View}
use Rattle.wf_model.specs.DefaultView.{default_view}
use Rattle.wf_model.specs.declared.event.Event.{Event}
use Rattle.wf_model.specs.declared.event.Event.TheVariants.{Start, Expand}
use Rattle.wf_model.specs.Run.{IsAccepted}
use Rattle.wf_model.specs.Links.{links}
use Rattle.wf_model.specs.Safe.{IsExpansion, IsFull}
use Rattle.wf_model.specs.Items.{Item, items, Depends}
use Rattle.wf_laws.specs.Graft.{graft}
use Rattle.wf_laws.specs.Examples.{a_module, at, port, edge, into, out, link}

-- S has input a and output b, P and Q have input x and output y; S is expanded to u of P and v of Q
abbrev pub line : Grammar
line = record {
  start = 0;
  modules = a_module "S" (codes "a" ∷ []) (codes "b" ∷ []) ∷ a_module "P" (codes "x" ∷ []) (codes "y" ∷ []) ∷ a_module "Q" (codes "x" ∷ []) (codes "y" ∷ []) ∷ [];
  productions = record { head = 0; positions = at "u" 1 ∷ at "v" 2 ∷ []; edges = edge 0 0 1 0 ∷ []; entries = port 0 0 ∷ []; exits = port 1 0 ∷ [] } ∷ [];
  given = [];
}

-- the default view: S is expanded; P and Q have all pairs
abbrev pub whole_view : View
whole_view = record { expanded = 0 ∷ []; shown = ((0, 0) ∷ []) ∷ ((0, 0) ∷ []) ∷ ((0, 0) ∷ []) ∷ [] }

-- every pair of every module
abbrev pub all_pairs : Assignment
all_pairs m i o = true

-- nothing is expanded
abbrev pub shut_view : View
shut_view = record { expanded = []; shown = ((0, 0) ∷ []) ∷ ((0, 0) ∷ []) ∷ ((0, 0) ∷ []) ∷ [] }

-- the run: r is expanded to i1 and i2
abbrev pub events : List Event
events = Start (codes "r") ∷ Expand (codes "r") 0 (codes "i1" ∷ codes "i2" ∷ []) ∷ []

-- its items: the input of r
abbrev pub r_a : Item
r_a = record { name = codes "r.a"; maker = None; produced = None; consumed = Some (into "r" 0) }

-- the output of r
abbrev pub r_b : Item
r_b = record { name = codes "r.b"; maker = None; produced = Some (out "r" 0); consumed = None }

-- the edge from i1 to i2
abbrev pub i1_y : Item
i1_y = record { name = codes "i1.y"; maker = Some (codes "r"); produced = Some (out "i1" 0); consumed = Some (into "i2" 0) }

-- the grammar, the run, its links and items, and which item depends on which
pub record LineGrammarIsWorked : Type 0 where
  pub well_formed : IsWellFormed line
  pub proper : IsProper line
  pub linear : IsLinear line
  pub default : default_view line ≡ whole_view
  -- each of S, P and Q joins its input to its output in all expansions
  pub full : IsFull line whole_view all_pairs
  pub accepted : IsAccepted line 3 events
  pub expansion : IsExpansion line whole_view 0 events
  -- it is grafted of a run of P and a run of Q, each with its start event alone
  pub grafted : graft (codes "r") 0 ((Start (codes "i1") ∷ []) ∷ (Start (codes "i2") ∷ []) ∷ []) ≡ events
  pub items_are : items line 0 events ≡ r_a ∷ r_b ∷ i1_y ∷ []
  -- the edge, the entry and the exit of r, then the pairs of i1 and i2
  pub links_are : links line whole_view 0 events ≡ link (out "i1" 0) (into "i2" 0) ∷ link (into "r" 0) (into "i1" 0) ∷ link (out "i2" 0) (out "r" 0) ∷ link (into "i1" 0) (out "i1" 0) ∷ link (into "i2" 0) (out "i2" 0) ∷ []
  -- unexpanded, r is pending and has no links
  pub pending_has_none : links line whole_view 0 (Start (codes "r") ∷ []) ≡ []
  -- where the view does not expand S, r has its own pair alone
  pub shut_links : links line shut_view 0 events ≡ link (into "r" 0) (out "r" 0) ∷ []
  pub i1_y_of_r_a : Depends line whole_view events r_a i1_y
  pub r_b_of_i1_y : Depends line whole_view events i1_y r_b
  pub r_b_of_r_a : Depends line whole_view events r_a r_b
  pub r_a_of_r_b : ¬ Depends line whole_view events r_b r_a
  pub not_of_itself : ¬ Depends line whole_view events i1_y i1_y
