-- The last part of a label: the number of its port, or of its edge. Lifting changes this part alone.
use Rattle.std.specs.Prelude.{◌≡◌, ◌+◌, ◌^◌, ◌≤◌, ℕ, Bool, true, false, List, [], ◌∷◌, ◌++◌, length}
use Rattle.wf_model.specs.Grammar.{Grammar}
use Rattle.bit_pack.specs.Rooms.{BitsInRoom}
use Rattle.label_model.specs.Labels.{Label, Input, Output, OfEdge, prefix_bits, label_bits, IsLabel}
use Rattle.wf_label.specs.Marks.{Mark, AtInput, AtOutput, Chain, Into, End}
use Rattle.wf_label.specs.Values.{alternative_bits}
use Rattle.words_model.specs.Lifting.{lift_label}

-- the number of the port of a label, or of its edge
abbrev pub port_or_edge : Label → ℕ
port_or_edge (Input p) = p
port_or_edge (Output p) = p
port_or_edge (OfEdge p) = p.edge

-- the bits that stand before its code
abbrev pub bits_to_number : Label → List Bool
bits_to_number (Input p) = false ∷ false ∷ []
bits_to_number (Output p) = false ∷ true ∷ []
bits_to_number (OfEdge p) = prefix_bits p.steps ++ alternative_bits p.chain p.alternative

-- this is the number of the port of the label, or of its edge, and so many bits stand before its code
pub record IsLastPart (l : Label) (at n : ℕ) : Type 0 where
  pub number : n ≡ port_or_edge l
  pub before : at ≡ length (bits_to_number l)

-- so of each label of the grammar with these bits
abbrev pub IsLastPartOf : Grammar → List Bool → ℕ → ℕ → Type 0
IsLastPartOf g bits at n = (l : Label) → IsLabel g l → bits ≡ label_bits l → IsLastPart l at n

-- the number of the port or edge that a mark names, and otherwise the one before
abbrev pub number_by : ℕ → Mark → ℕ
number_by n (AtInput p) = p
number_by n (AtOutput p) = p
number_by n (Chain c) = n
number_by n (Into s) = n
number_by n (End p e) = e

-- each label of the grammar with these bits has the other bits in the state s, one of k
abbrev pub AreLiftedBits : Grammar → ℕ → ℕ → List Bool → List Bool → Type 0
AreLiftedBits g k s bits lifted = (l : Label) → IsLabel g l → bits ≡ label_bits l → lifted ≡ label_bits (lift_label k s l)

-- there is room for each label in a state: for the bits before the code of its number, fewer than 2^17, and for the code
abbrev pub HasLabelRoom : BitsInRoom → Type 0
HasLabelRoom w = 2 ^ 17 + 127 ≤ w.room
