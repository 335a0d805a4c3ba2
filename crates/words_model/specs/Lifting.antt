-- The lifted grammar, view and labels: each port stands once for each of k states.
use Rattle.std.specs.Prelude.{ℕ, suc, ◌+◌, ◌*◌, ◌≤◌, List, [], ◌∷◌, ◌++◌, map, flat_map, length, decimal}
use Rattle.wf_model.specs.Lists.{IsIn, numbers_from}
use Rattle.wf_model.specs.Grammar.{Grammar, Module, Production, Inner, Edge}
use Rattle.wf_model.specs.View.{View}
use Rattle.wf_model.specs.Links.{Port}
use Rattle.label_model.specs.Labels.{Label, Input, Output, OfEdge}
use Rattle.words_model.specs.Automata.{Automaton, next_state}

-- the number of a port or of an edge in the state s
abbrev pub in_state : ℕ → ℕ → ℕ → ℕ
in_state k s n = n * k + s

-- a port in the state s
abbrev pub lift_port : {A : Type 0} → ℕ → ℕ → Port A → Port A
lift_port k s x = record { owner = x.owner; side = x.side; number = in_state k s x.number }

-- a port of a position in the state s
abbrev pub lift_inner : ℕ → ℕ → Inner → Inner
lift_inner k s i = record { position = i.position; port = in_state k s i.port }

-- an edge in the state s joins the ports in that state
abbrev pub lift_edge : ℕ → ℕ → Edge → Edge
lift_edge k s e = record { from = lift_inner k s e.from; to = lift_inner k s e.to }

-- an edge in each state
abbrev pub edge_states : ℕ → Edge → List Edge
edge_states k e = map (λ s. lift_edge k s e) (numbers_from 0 k)

-- a port of a position in each state
abbrev pub inner_states : ℕ → Inner → List Inner
inner_states k i = map (λ s. lift_inner k s i) (numbers_from 0 k)

-- each edge, entry and exit stands once for each state
abbrev pub lift_production : ℕ → Production → Production
lift_production k r =
    record {
      head = r.head;
      positions = r.positions;
      edges = flat_map (edge_states k) r.edges;
      entries = flat_map (inner_states k) r.entries;
      exits = flat_map (inner_states k) r.exits;
    }

-- the name of a port: a letter, the number of the port before lifting, `-`, and the state
abbrev pub port_name : ℕ → ℕ → ℕ → List ℕ
port_name letter p s = letter ∷ decimal p ++ 45 ∷ decimal s

-- the names of n ports on one side, in each state
abbrev pub lifted_names : ℕ → ℕ → ℕ → List (List ℕ)
lifted_names letter k n = flat_map (λ p. map (port_name letter p) (numbers_from 0 k)) (numbers_from 0 n)

-- a module keeps its name; the letters of its ports are `i` and `o`
abbrev pub lift_module : ℕ → Module → Module
lift_module k m = record { name = m.name; inputs = lifted_names 105 k (length m.inputs); outputs = lifted_names 111 k (length m.outputs) }

-- the lifted grammar, which gives no pairs
abbrev pub lift : Grammar → ℕ → Grammar
lift g k = record { start = g.start; modules = map (lift_module k) g.modules; productions = map (lift_production k) g.productions; given = [] }

-- a module has at most 64 ports on a side, with each in k states
abbrev pub HasFewStates : Grammar → ℕ → Type 0
HasFewStates g k = (m : Module) → IsIn m g.modules → (length m.inputs * k ≤ 64) × (length m.outputs * k ≤ 64)

-- the pairs of the module m: where it has the pair of i and o, it has that of i in each state and o in the next state
abbrev pub lift_pairs : Automaton → ℕ → List (ℕ × ℕ) → List (ℕ × ℕ)
lift_pairs a m pairs = flat_map (λ (e : ℕ × ℕ). map (λ s. (in_state a.states s e.0, in_state a.states (next_state a s m) e.1)) (numbers_from 0 a.states)) pairs

-- the pairs of modules, of which the first has the number m
abbrev pub lift_shown : Automaton → ℕ → List (List (ℕ × ℕ)) → List (List (ℕ × ℕ))
lift_shown a m [] = []
lift_shown a m (pairs ∷ rest) = lift_pairs a m pairs ∷ lift_shown a (suc m) rest

-- the lifted view expands the same modules
abbrev pub lift_view : Automaton → View → View
lift_view a u = record { expanded = u.expanded; shown = lift_shown a 0 u.shown }

-- a label in the state s: that of the port of the root, or of the edge, in this state
abbrev pub lift_label : ℕ → ℕ → Label → Label
lift_label k s (Input p) = Input (in_state k s p)
lift_label k s (Output p) = Output (in_state k s p)
lift_label k s (OfEdge p) = OfEdge (record { steps = p.steps; chain = p.chain; alternative = p.alternative; edge = in_state k s p.edge })
