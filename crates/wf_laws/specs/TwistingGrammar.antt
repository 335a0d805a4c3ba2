-- The twisting grammar: L is expanded to a W, an L and a W again, and W joins its ports crosswise. The links of one body, and the dependencies of a run.
use Rattle.std.specs.Prelude.{◌≡◌, ℕ, List, [], ◌∷◌, map, Some, None, codes}
use Prim.Native.String.{String}
use Rattle.wf_model.specs.Grammar.{Grammar, Assignment, is_given}
use Rattle.wf_model.specs.View.{View}
use Rattle.wf_model.specs.DefaultView.{default_view}
use Rattle.wf_model.specs.declared.event.Event.{Event}
use Rattle.wf_model.specs.declared.event.Event.TheVariants.{Start, Expand}
use Rattle.wf_model.specs.Run.{Instance, IsAccepted, seen_in, sub_run}
use Rattle.wf_model.specs.Links.{Port, input, output, body_links}
use Rattle.wf_model.specs.Safe.{IsExpansion, BodyJoins}
use Rattle.wf_model.specs.Items.{Item, items, IsVisible, Depends}
use Rattle.wf_laws.specs.Graft.{graft}
use Rattle.wf_laws.specs.Examples.{a_module, at, port, edge, into, out}

-- two names
abbrev pub two : String → String → List (List ℕ)
two a b = codes a ∷ codes b ∷ []

-- S, L, W and T have two inputs and two outputs. S is expanded to an L; L to a W, an L and a W, or to a T. W joins x1 to y2 and x2 to y1, T joins x1 to y1 and x2 to y2
abbrev pub twisting : Grammar
twisting = record {
  start = 0;
  modules = a_module "S" (two "a1" "a2") (two "b1" "b2") ∷ a_module "L" (two "x1" "x2") (two "y1" "y2") ∷ a_module "W" (two "x1" "x2") (two "y1" "y2") ∷ a_module "T" (two "x1" "x2") (two "y1" "y2") ∷ [];
  productions =
      record { head = 0; positions = at "u" 1 ∷ []; edges = []; entries = port 0 0 ∷ port 0 1 ∷ []; exits = port 0 0 ∷ port 0 1 ∷ [] } ∷
      record { head = 1; positions = at "w" 2 ∷ at "l" 1 ∷ at "v" 2 ∷ []; edges = edge 0 0 1 0 ∷ edge 0 1 1 1 ∷ edge 1 0 2 0 ∷ edge 1 1 2 1 ∷ []; entries = port 0 0 ∷ port 0 1 ∷ []; exits = port 2 0 ∷ port 2 1 ∷ [] } ∷
      record { head = 1; positions = at "t" 3 ∷ []; edges = []; entries = port 0 0 ∷ port 0 1 ∷ []; exits = port 0 0 ∷ port 0 1 ∷ [] } ∷ [];
  given = record { module_no = 2; pairs = (0, 1) ∷ (1, 0) ∷ [] } ∷ record { module_no = 3; pairs = (0, 0) ∷ (1, 1) ∷ [] } ∷ [];
}

-- the default view: S and L are expanded; W and T keep the pairs given to them
abbrev pub whole_view : View
whole_view = default_view twisting

-- S alone is expanded, and L has all pairs
abbrev pub outer_view : View
outer_view = record { expanded = 0 ∷ []; shown = [] ∷ ((0, 0) ∷ (0, 1) ∷ (1, 0) ∷ (1, 1) ∷ []) ∷ ((0, 1) ∷ (1, 0) ∷ []) ∷ ((0, 0) ∷ (1, 1) ∷ []) ∷ [] }

-- the run: L is expanded three times to a W, an L and a W, and at last to a T
abbrev pub events : List Event
events =
    Start (codes "r") ∷
    Expand (codes "r") 0 (codes "l0" ∷ []) ∷
    Expand (codes "l0") 1 (codes "w0" ∷ codes "l1" ∷ codes "v0" ∷ []) ∷
    Expand (codes "l1") 1 (codes "w1" ∷ codes "l2" ∷ codes "v1" ∷ []) ∷
    Expand (codes "l2") 1 (codes "w2" ∷ codes "l3" ∷ codes "v2" ∷ []) ∷
    Expand (codes "l3") 2 (codes "t" ∷ []) ∷ []

-- the item of an input of the root r
abbrev pub root_input : String → ℕ → Item
root_input n k = record { name = codes n; maker = None; produced = None; consumed = Some (into "r" k) }

-- the item of an output of the root r
abbrev pub root_output : String → ℕ → Item
root_output n k = record { name = codes n; maker = None; produced = Some (out "r" k); consumed = None }

-- the item of an edge, made by an instance
abbrev pub edge_made_by : String → String → Port (List ℕ) → Port (List ℕ) → Item
edge_made_by i n x y = record { name = codes n; maker = Some (codes i); produced = Some x; consumed = Some y }

-- the items that are asked for; first three ports of the root
abbrev pub r_a1 : Item
r_a1 = root_input "r.a1" 0

abbrev pub r_b1 : Item
r_b1 = root_output "r.b1" 0

abbrev pub r_b2 : Item
r_b2 = root_output "r.b2" 1

-- edges of l0: from w0 to l1, and from l1 to v0
abbrev pub w0_y1 : Item
w0_y1 = edge_made_by "l0" "w0.y1" (out "w0" 0) (into "l1" 0)

abbrev pub w0_y2 : Item
w0_y2 = edge_made_by "l0" "w0.y2" (out "w0" 1) (into "l1" 1)

abbrev pub l1_y1 : Item
l1_y1 = edge_made_by "l0" "l1.y1" (out "l1" 0) (into "v0" 0)

abbrev pub l1_y2 : Item
l1_y2 = edge_made_by "l0" "l1.y2" (out "l1" 1) (into "v0" 1)

-- edges of l1: from w1 to l2, and from l2 to v1
abbrev pub w1_y1 : Item
w1_y1 = edge_made_by "l1" "w1.y1" (out "w1" 0) (into "l2" 0)

abbrev pub w1_y2 : Item
w1_y2 = edge_made_by "l1" "w1.y2" (out "w1" 1) (into "l2" 1)

abbrev pub l2_y1 : Item
l2_y1 = edge_made_by "l1" "l2.y1" (out "l2" 0) (into "v1" 0)

abbrev pub l2_y2 : Item
l2_y2 = edge_made_by "l1" "l2.y2" (out "l2" 1) (into "v1" 1)

-- an edge of l2: from w2 to l3
abbrev pub w2_y1 : Item
w2_y1 = edge_made_by "l2" "w2.y1" (out "w2" 0) (into "l3" 0)

-- L and S are straight: the first input is joined to the first output alone, the second to the second
abbrev pub straight : Assignment
straight m i o = is_given (record { module_no = 0; pairs = (0, 0) ∷ (1, 1) ∷ [] } ∷ record { module_no = 1; pairs = (0, 0) ∷ (1, 1) ∷ [] } ∷ twisting.given) m i o

-- the run, the links of one body, the items, and which of them depends on which
pub record TwistingGrammarIsWorked : Type 0 where
  pub accepted : IsAccepted twisting 12 events
  pub expansion : IsExpansion twisting whole_view 0 events
  -- the run of l0 is grafted of the runs of its children, of which that of l1 goes on
  pub l0_grafted : graft (codes "l0") 1 ((Start (codes "w0") ∷ []) ∷ sub_run (codes "l1") events ∷ (Start (codes "v0") ∷ []) ∷ []) ≡ sub_run (codes "l0") events
  -- the body of production 1: four edges, two entries, two exits, then the pairs of w, l and v
  pub body : body_links twisting straight 1 ≡
      record { from = output (Some 0) 0; to = input (Some 1) 0 } ∷
      record { from = output (Some 0) 1; to = input (Some 1) 1 } ∷
      record { from = output (Some 1) 0; to = input (Some 2) 0 } ∷
      record { from = output (Some 1) 1; to = input (Some 2) 1 } ∷
      record { from = input None 0; to = input (Some 0) 0 } ∷
      record { from = input None 1; to = input (Some 0) 1 } ∷
      record { from = output (Some 2) 0; to = output None 0 } ∷
      record { from = output (Some 2) 1; to = output None 1 } ∷
      record { from = input (Some 0) 0; to = output (Some 0) 1 } ∷
      record { from = input (Some 0) 1; to = output (Some 0) 0 } ∷
      record { from = input (Some 1) 0; to = output (Some 1) 0 } ∷
      record { from = input (Some 1) 1; to = output (Some 1) 1 } ∷
      record { from = input (Some 2) 0; to = output (Some 2) 1 } ∷
      record { from = input (Some 2) 1; to = output (Some 2) 0 } ∷ []
  -- crosswise twice is straight
  pub body_straight : BodyJoins twisting straight 1 0 0
  pub body_not_crossed : ¬ BodyJoins twisting straight 1 0 1
  -- two inputs and two outputs of r, and four edges of each of l0, l1 and l2
  pub items_are : map (λ (t : Item). t.name) (items twisting 0 events) ≡
      codes "r.a1" ∷ codes "r.a2" ∷ codes "r.b1" ∷ codes "r.b2" ∷
      codes "w0.y1" ∷ codes "w0.y2" ∷ codes "l1.y1" ∷ codes "l1.y2" ∷
      codes "w1.y1" ∷ codes "w1.y2" ∷ codes "l2.y1" ∷ codes "l2.y2" ∷
      codes "w2.y1" ∷ codes "w2.y2" ∷ codes "l3.y1" ∷ codes "l3.y2" ∷ []
  pub w0_y1_not_of_r_a1 : ¬ Depends twisting whole_view events r_a1 w0_y1
  pub w0_y2_of_r_a1 : Depends twisting whole_view events r_a1 w0_y2
  pub w1_y1_of_r_a1 : Depends twisting whole_view events r_a1 w1_y1
  pub w1_y2_not_of_r_a1 : ¬ Depends twisting whole_view events r_a1 w1_y2
  pub w1_y2_of_w0_y1 : Depends twisting whole_view events w0_y1 w1_y2
  pub w1_y1_not_of_w0_y1 : ¬ Depends twisting whole_view events w0_y1 w1_y1
  pub w2_y1_of_w0_y1 : Depends twisting whole_view events w0_y1 w2_y1
  pub l1_y1_of_w0_y1 : Depends twisting whole_view events w0_y1 l1_y1
  pub l1_y2_not_of_w0_y1 : ¬ Depends twisting whole_view events w0_y1 l1_y2
  pub l1_y1_of_w1_y2 : Depends twisting whole_view events w1_y2 l1_y1
  pub l1_y1_not_of_w1_y1 : ¬ Depends twisting whole_view events w1_y1 l1_y1
  pub l2_y1_not_of_l1_y1 : ¬ Depends twisting whole_view events l1_y1 l2_y1
  pub r_b1_of_r_a1 : Depends twisting whole_view events r_a1 r_b1
  pub r_b2_not_of_r_a1 : ¬ Depends twisting whole_view events r_a1 r_b2
  -- under the other view l0 is shown as one module with all pairs, and what it made is hidden
  pub outer_seen : map (λ (i : Instance). i.name) (seen_in twisting outer_view 0 events) ≡ codes "r" ∷ codes "l0" ∷ []
  pub r_b2_of_r_a1_outside : Depends twisting outer_view events r_a1 r_b2
  pub w0_y1_hidden : ¬ IsVisible twisting outer_view 0 events w0_y1
