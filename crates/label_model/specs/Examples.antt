-- Worked grammars and runs, with the labels of their items and the bounds of their labels.
use Rattle.std.specs.Prelude.{◌≡◌, ℕ, List, [], ◌∷◌, map, flat_map, take, codes, Some, None}
use Rattle.wf_model.specs.Grammar.{Grammar}
use Rattle.wf_model.specs.declared.event.Event.{Event}
use Rattle.wf_model.specs.declared.event.Event.TheVariants.{Start, Expand}
use Rattle.wf_model.specs.Items.{Item}
use Rattle.wf_laws.specs.Examples.{a_module, at, port, edge}
use Rattle.wf_laws.specs.LineGrammar.{line, events as line_run}
use Rattle.wf_laws.specs.TwistingGrammar.{two, twisting}
use Rattle.bit_pack.specs.Bits.{packed}
use Rattle.label_model.specs.Labels.{Label, OfEdge, label_bits, IsLabel}
use Rattle.label_model.specs.RunLabels.{labelled}
use Rattle.label_model.specs.Reading.{IsLabelBytes}
use Rattle.label_model.specs.Bound.{components, cycles, constant_bits, bits_per_digit, bound}
use Rattle.label_model.specs.Files.{entry_bytes, entries_of}

-- as the line grammar, and S may be expanded to the Q and the P in the other order too
abbrev pub fork : Grammar
fork = record {
  start = 0;
  modules = a_module "S" (codes "a" ∷ []) (codes "b" ∷ []) ∷ a_module "P" (codes "x" ∷ []) (codes "y" ∷ []) ∷ a_module "Q" (codes "x" ∷ []) (codes "y" ∷ []) ∷ [];
  productions =
      record { head = 0; positions = at "u" 1 ∷ at "v" 2 ∷ []; edges = edge 0 0 1 0 ∷ []; entries = port 0 0 ∷ []; exits = port 1 0 ∷ [] } ∷
      record { head = 0; positions = at "u" 2 ∷ at "v" 1 ∷ []; edges = edge 0 0 1 0 ∷ []; entries = port 0 0 ∷ []; exits = port 1 0 ∷ [] } ∷ [];
  given = [];
}

-- S is expanded to an L; L to a P and an L again, or to a P alone
abbrev pub loop : Grammar
loop = record {
  start = 0;
  modules = a_module "S" (codes "a" ∷ []) (codes "b" ∷ []) ∷ a_module "L" (codes "x" ∷ []) (codes "y" ∷ []) ∷ a_module "P" (codes "x" ∷ []) (codes "y" ∷ []) ∷ [];
  productions =
      record { head = 0; positions = at "u" 1 ∷ []; edges = []; entries = port 0 0 ∷ []; exits = port 0 0 ∷ [] } ∷
      record { head = 1; positions = at "w" 2 ∷ at "l" 1 ∷ []; edges = edge 0 0 1 0 ∷ []; entries = port 0 0 ∷ []; exits = port 1 0 ∷ [] } ∷
      record { head = 1; positions = at "w" 2 ∷ []; edges = []; entries = port 0 0 ∷ []; exits = port 0 0 ∷ [] } ∷ [];
  given = [];
}

-- A is expanded to a P and a B, or to a P alone; B to a Q and an A, or to a Q alone: the two are one cycle
abbrev pub pair : Grammar
pair = record {
  start = 0;
  modules = a_module "A" (codes "a" ∷ []) (codes "b" ∷ []) ∷ a_module "B" (codes "a" ∷ []) (codes "b" ∷ []) ∷ a_module "P" (codes "x" ∷ []) (codes "y" ∷ []) ∷ a_module "Q" (codes "x" ∷ []) (codes "y" ∷ []) ∷ [];
  productions =
      record { head = 0; positions = at "x" 2 ∷ at "m" 1 ∷ []; edges = edge 0 0 1 0 ∷ []; entries = port 0 0 ∷ []; exits = port 1 0 ∷ [] } ∷
      record { head = 0; positions = at "x" 2 ∷ []; edges = []; entries = port 0 0 ∷ []; exits = port 0 0 ∷ [] } ∷
      record { head = 1; positions = at "y" 3 ∷ at "m" 0 ∷ []; edges = edge 0 0 1 0 ∷ []; entries = port 0 0 ∷ []; exits = port 1 0 ∷ [] } ∷
      record { head = 1; positions = at "y" 3 ∷ []; edges = []; entries = port 0 0 ∷ []; exits = port 0 0 ∷ [] } ∷ [];
  given = [];
}

-- the bytes of the labels of a run's items, in order
abbrev pub label_bytes : Grammar → List Event → List (List ℕ)
label_bytes g events = map (λ (t : Item × Label). packed (label_bits t.1)) (labelled g events)

-- the root is expanded in the second way
abbrev pub fork_run : List Event
fork_run = Start (codes "r") ∷ Expand (codes "r") 1 (two "i1" "i2") ∷ []

-- L is expanded to a P and an L again four times
abbrev pub loop_run : List Event
loop_run =
    Start (codes "r") ∷ Expand (codes "r") 0 (codes "l0" ∷ []) ∷ Expand (codes "l0") 1 (two "w0" "l1") ∷ Expand (codes "l1") 1 (two "w1" "l2") ∷
    Expand (codes "l2") 1 (two "w2" "l3") ∷ Expand (codes "l3") 1 (two "w3" "l4") ∷ []

-- A is expanded to a P and a B, and B to a Q and an A
abbrev pub pair_run : List Event
pair_run = Start (codes "r") ∷ Expand (codes "r") 0 (two "x0" "m0") ∷ Expand (codes "m0") 2 (two "y1" "m1") ∷ []

-- edge 0 of an L that the first step leads to and then so many continuing steps
abbrev pub edge_after : ℕ → Label
edge_after c = OfEdge (record { steps = record { chain = None; alternative = 0; position = 0 } ∷ []; chain = Some c; alternative = 0; edge = 0 })

-- the labels, label files and bounds of the worked grammars
pub record LabelsAreWorked : Type 0 where
  -- an input and an output of the root, and one edge
  pub line_labels : label_bytes line line_run ≡ (0x20 ∷ []) ∷ (0x60 ∷ []) ∷ (0xb0 ∷ []) ∷ []
  pub fork_labels : label_bytes fork fork_run ≡ (0x20 ∷ []) ∷ (0x60 ∷ []) ∷ (0x94 ∷ []) ∷ []
  -- the edges of chain numbers 0 to 3
  pub loop_labels : label_bytes loop loop_run ≡ (0x20 ∷ []) ∷ (0x60 ∷ []) ∷ (0xfb ∷ []) ∷ (0xf4 ∷ 0xc0 ∷ []) ∷ (0xf6 ∷ 0xc0 ∷ []) ∷ (0xf2 ∷ 0x30 ∷ []) ∷ []
  -- the edges of chain numbers 0 and 1
  pub pair_labels : label_bytes pair pair_run ≡ (0x20 ∷ []) ∷ (0x60 ∷ []) ∷ (0xd8 ∷ []) ∷ (0xa6 ∷ []) ∷ []
  -- r.a, r.b and i1.y
  pub line_entries : flat_map entry_bytes (entries_of line line_run) ≡
      0x03 ∷ 0x72 ∷ 0x2e ∷ 0x61 ∷ 0x00 ∷ 0x01 ∷ 0x20 ∷ 0x03 ∷ 0x72 ∷ 0x2e ∷ 0x62 ∷ 0x00 ∷ 0x01 ∷ 0x60 ∷ 0x04 ∷ 0x69 ∷ 0x31 ∷ 0x2e ∷ 0x79 ∷ 0x00 ∷ 0x01 ∷ 0xb0 ∷ []
  -- r.a, r.b, w0.y and w1.y
  pub loop_entries : flat_map entry_bytes (entries_of loop (take 4 loop_run)) ≡
      0x03 ∷ 0x72 ∷ 0x2e ∷ 0x61 ∷ 0x00 ∷ 0x01 ∷ 0x20 ∷ 0x03 ∷ 0x72 ∷ 0x2e ∷ 0x62 ∷ 0x00 ∷ 0x01 ∷ 0x60 ∷
      0x04 ∷ 0x77 ∷ 0x30 ∷ 0x2e ∷ 0x79 ∷ 0x00 ∷ 0x01 ∷ 0xfb ∷ 0x04 ∷ 0x77 ∷ 0x31 ∷ 0x2e ∷ 0x79 ∷ 0x00 ∷ 0x02 ∷ 0xf4 ∷ 0xc0 ∷ []
  pub loop_label : IsLabel loop (edge_after 1)
  -- a chain of 100,000 continuing steps is told in 40 bits
  pub twisting_label : packed (label_bits (edge_after 100000)) ≡ 0xf0 ∷ 0x00 ∷ 0x0c ∷ 0x35 ∷ 0x0b ∷ []
  -- these bytes name the continuing step as a step
  pub twisting_no_label : ¬ IsLabelBytes twisting (0xfe ∷ 0xac ∷ [])
  pub twisting_constant : constant_bits twisting ≡ 17
  pub twisting_components : components twisting ≡ 2
  pub twisting_cycles : cycles twisting ≡ 1
  pub twisting_bound : bound twisting 100002 ≡ 51
  pub twisting_per_digit : bits_per_digit twisting ≡ 19
  pub line_constant : constant_bits line ≡ 15
  pub line_cycles : cycles line ≡ 0
