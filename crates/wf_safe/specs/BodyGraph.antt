-- The graph of one body: its ports as vertices, and its links as edges.
use Rattle.std.specs.Prelude.{◌≡◌, ◌↔◌, ◌⊎◌, ℕ, suc, ◌+◌, ◌*◌, ◌==◌, cond, List, [], ◌∷◌, flat_map, length, get_or, Option, Some, None, option_map, Vec}
use Rattle.std.specs.Int.{bit_at}
use Rattle.std.specs.declared.alloc.Global.{Global}
use Rattle.wf_model.specs.Lists.{IsIn, numbers_from}
use Rattle.wf_model.specs.Grammar.{Grammar, body_of}
use Rattle.wf_model.specs.Links.{Port, Link, input, output}
use Rattle.wf_graph.specs.Graph.{HasEdge}
use Rattle.wf_spec.specs.Sides.{side_place}
use Rattle.wf_safe.specs.declared.check.ports.Port.{Port as PortHeld}

-- a port of a body, as the definitions see it
abbrev pub port_of : PortHeld → Port (Option ℕ)
port_of x = record { owner = option_map (λ k. k.0) x.owner; side = x.side; number = x.port.0 }

-- a link between two such ports
abbrev pub link_of : PortHeld → PortHeld → Link (Option ℕ)
link_of from to = record { from = port_of from; to = port_of to }

-- the place of an owner: the head comes first, and then the positions
abbrev pub owner_place : Option ℕ → ℕ
owner_place None = 0
owner_place (Some k) = suc k

-- the vertex of a port: each owner has 128 vertices, 64 for each side
abbrev pub vertex_of : Port (Option ℕ) → ℕ
vertex_of x = owner_place x.owner * 128 + side_place x.side * 64 + x.number

-- how many vertices the graph of a body has
abbrev pub vertices_of : Grammar → ℕ → ℕ
vertices_of g p = suc (length (body_of g p)) * 128

-- one of the links leads between the ports of two vertices
abbrev pub Leads : List (Link (Option ℕ)) → ℕ → ℕ → Type 0
Leads ls a b = (l : Link (Option ℕ)) × IsIn l ls × (vertex_of l.from ≡ a) × (vertex_of l.to ≡ b)

-- the graph of links: an edge leads between two vertices exactly where a link leads between their ports
abbrev pub IsGraphOf : List (Link (Option ℕ)) → List (Vec ℕ Global) → Type 0
IsGraphOf ls graph = (a b : ℕ) → HasEdge graph a b ↔ Leads ls a b

-- the vertices of one graph are those of the other, and its edges are those of the other and the links
pub record AddsLinks (ls : List (Link (Option ℕ))) (before after : List (Vec ℕ Global)) : Type 0 where
  pub count : length after ≡ length before
  pub edges : (a b : ℕ) → HasEdge after a b ↔ (HasEdge before a b ⊎ Leads ls a b)

-- the pair of input i and output o of position k, as a link
abbrev pub pair_link : ℕ → ℕ → ℕ → Link (Option ℕ)
pair_link k i o = record { from = input (Some k) i; to = output (Some k) o }

-- the pairs of a row of position k, from output o on, n of them
abbrev pub row_links : ℕ → ℕ → ℕ → ℕ → ℕ → List (Link (Option ℕ))
row_links k i row o n = flat_map (λ j. cond (bit_at row j == 1) (pair_link k i j ∷ []) []) (numbers_from o n)

-- the pairs of the rows of position k, from input i on, n of them
abbrev pub matrix_links : ℕ → List ℕ → ℕ → ℕ → ℕ → List (Link (Option ℕ))
matrix_links k rows outputs i n = flat_map (λ j. row_links k j (get_or rows j 0) 0 outputs) (numbers_from i n)
