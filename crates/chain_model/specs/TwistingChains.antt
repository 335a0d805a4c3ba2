-- Worked chains of the twisting grammar: one that goes down and up through recursive instances, and one past an instance that the view shows as one module.
use Rattle.std.specs.Prelude.{List, [], ◌∷◌, codes}
use Prim.Native.String.{String}
use Rattle.wf_model.specs.declared.event.Event.{Event}
use Rattle.wf_model.specs.declared.event.Event.TheVariants.{Start, Expand}
use Rattle.wf_model.specs.Run.{Instance}
use Rattle.wf_model.specs.Items.{Item}
use Rattle.wf_laws.specs.Examples.{into, out}
use Rattle.wf_laws.specs.TwistingGrammar.{twisting, whole_view, outer_view, straight, edge_made_by, r_a1, r_b1, r_b2, w0_y2, w1_y1, l2_y1, l1_y2}
use Rattle.wf_laws.specs.LineGrammar.{all_pairs}
use Rattle.chain_model.specs.Chains.{ChainStep, IsItemChain}
use Rattle.chain_model.specs.Examples.{through}

-- instances of L and of W
abbrev pub an_l : String → Instance
an_l n = record { name = codes n; module_no = 1 }

abbrev pub a_w : String → Instance
a_w n = record { name = codes n; module_no = 2 }

-- the run up to where l3 is pending
abbrev pub unfinished : List Event
unfinished =
    Start (codes "r") ∷
    Expand (codes "r") 0 (codes "l0" ∷ []) ∷
    Expand (codes "l0") 1 (codes "w0" ∷ codes "l1" ∷ codes "v0" ∷ []) ∷
    Expand (codes "l1") 1 (codes "w1" ∷ codes "l2" ∷ codes "v1" ∷ []) ∷
    Expand (codes "l2") 1 (codes "w2" ∷ codes "l3" ∷ codes "v2" ∷ []) ∷ []

-- edges of l2: from w2 to l3, and from l3 to v2
abbrev pub w2_y2 : Item
w2_y2 = edge_made_by "l2" "w2.y2" (out "w2" 1) (into "l3" 1)

abbrev pub l3_y2 : Item
l3_y2 = edge_made_by "l2" "l3.y2" (out "l3" 1) (into "v2" 1)

-- from r.a1 to r.b1: down through w0, w1 and w2, which cross, past l3, which is pending and straight, and up through v2, v1 and v0, which cross
abbrev pub seven_steps : List ChainStep
seven_steps =
    through (a_w "w0") w0_y2 ∷ through (a_w "w1") w1_y1 ∷ through (a_w "w2") w2_y2 ∷ through (an_l "l3") l3_y2 ∷
    through (a_w "v2") l2_y1 ∷ through (a_w "v1") l1_y2 ∷ through (a_w "v0") r_b1 ∷ []

-- from r.a1 to r.b2 past l0, which has all pairs under the other view
abbrev pub past_l0 : List ChainStep
past_l0 = through (an_l "l0") r_b2 ∷ []

pub record TwistingChainsAreWorked : Type 0 where
  pub down_and_up : IsItemChain twisting whole_view straight 0 unfinished r_a1 seven_steps r_b1
  pub outside : IsItemChain twisting outer_view all_pairs 0 unfinished r_a1 past_l0 r_b2
