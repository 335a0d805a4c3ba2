-- Worked chains of the diamond grammar, in which two ways of as many steps lead from one item to another: the order of making tells the first.
use Rattle.std.specs.Prelude.{List, [], ◌∷◌, Some, codes}
use Rattle.wf_model.specs.Grammar.{Grammar}
use Rattle.wf_model.specs.View.{View}
use Rattle.wf_model.specs.declared.event.Event.{Event}
use Rattle.wf_model.specs.declared.event.Event.TheVariants.{Start, Expand}
use Rattle.wf_model.specs.Run.{Instance, IsAccepted}
use Rattle.wf_model.specs.Items.{Item}
use Rattle.wf_laws.specs.Examples.{a_module, at, port, edge, into, out}
use Rattle.wf_laws.specs.LineGrammar.{all_pairs, r_a, r_b}
use Rattle.chain_model.specs.Chains.{ChainStep, IsItemChain}
use Rattle.chain_model.specs.Shortest.{IsFirstShortestChain}
use Rattle.chain_model.specs.Examples.{through}

-- S is expanded to p of P, q and k of Q, and j of J: the second output of P goes to k, the first to q, and both come together in j
abbrev pub diamond : Grammar
diamond = record {
  start = 0;
  modules =
      a_module "S" (codes "a" ∷ []) (codes "b" ∷ []) ∷ a_module "P" (codes "x" ∷ []) (codes "y1" ∷ codes "y2" ∷ []) ∷
      a_module "Q" (codes "x" ∷ []) (codes "y" ∷ []) ∷ a_module "J" (codes "x1" ∷ codes "x2" ∷ []) (codes "y" ∷ []) ∷ [];
  productions = record {
    head = 0;
    positions = at "p" 1 ∷ at "q" 2 ∷ at "k" 2 ∷ at "j" 3 ∷ [];
    edges = edge 0 1 2 0 ∷ edge 0 0 1 0 ∷ edge 1 0 3 0 ∷ edge 2 0 3 1 ∷ [];
    entries = port 0 0 ∷ [];
    exits = port 3 0 ∷ [];
  } ∷ [];
  given = [];
}

-- S is expanded, and the others have all pairs
abbrev pub s_expanded : View
s_expanded = record { expanded = 0 ∷ []; shown = [] ∷ ((0, 0) ∷ (0, 1) ∷ []) ∷ ((0, 0) ∷ []) ∷ ((0, 0) ∷ (1, 0) ∷ []) ∷ [] }

-- the run: r is expanded
abbrev pub expanded_run : List Event
expanded_run = Start (codes "r") ∷ Expand (codes "r") 0 (codes "p" ∷ codes "q" ∷ codes "k" ∷ codes "j" ∷ []) ∷ []

-- its instances
abbrev pub instance_p : Instance
instance_p = record { name = codes "p"; module_no = 1 }

abbrev pub instance_q : Instance
instance_q = record { name = codes "q"; module_no = 2 }

abbrev pub instance_k : Instance
instance_k = record { name = codes "k"; module_no = 2 }

abbrev pub instance_j : Instance
instance_j = record { name = codes "j"; module_no = 3 }

-- its edges, in order of making
abbrev pub p_y2 : Item
p_y2 = record { name = codes "p.y2"; maker = Some (codes "r"); produced = Some (out "p" 1); consumed = Some (into "k" 0) }

abbrev pub p_y1 : Item
p_y1 = record { name = codes "p.y1"; maker = Some (codes "r"); produced = Some (out "p" 0); consumed = Some (into "q" 0) }

abbrev pub q_y : Item
q_y = record { name = codes "q.y"; maker = Some (codes "r"); produced = Some (out "q" 0); consumed = Some (into "j" 0) }

abbrev pub k_y : Item
k_y = record { name = codes "k.y"; maker = Some (codes "r"); produced = Some (out "k" 0); consumed = Some (into "j" 1) }

-- by way of k, and by way of q
abbrev pub by_k : List ChainStep
by_k = through instance_p p_y2 ∷ through instance_k k_y ∷ through instance_j r_b ∷ []

abbrev pub by_q : List ChainStep
by_q = through instance_p p_y1 ∷ through instance_q q_y ∷ through instance_j r_b ∷ []

pub record DiamondChainsAreWorked : Type 0 where
  pub accepted : IsAccepted diamond 5 expanded_run
  pub of_k : IsItemChain diamond s_expanded all_pairs 0 expanded_run r_a by_k r_b
  pub of_q : IsItemChain diamond s_expanded all_pairs 0 expanded_run r_a by_q r_b
  -- p.y2 was made before p.y1, though q stands before k
  pub k_first : IsFirstShortestChain diamond s_expanded all_pairs 0 expanded_run r_a by_k r_b
