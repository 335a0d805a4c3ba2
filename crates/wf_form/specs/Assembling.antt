-- Productions made from wirings.
use Rattle.std.specs.Prelude.{◌≡◌, ℕ, ◌<◌, List, map, length, get_or}
use Rattle.wf_model.specs.Lists.{IsIn, IsAt, AllDiffer}
use Rattle.wf_model.specs.Grammar.{Module, Inner, Production}
use Rattle.wf_model.specs.Meaning.{position_of, inner_of, edge_of}
use Rattle.wf_form.specs.declared.wiring.Exit.{Exit}
use Rattle.wf_form.specs.declared.wiring.Wiring.{Wiring}
use Rattle.wf_form.specs.Wiring.{entry_of, head_of, entered_by, left_by}

-- an exit as it is held: an output of the head, and the output of a position from which it leads
abbrev pub exit_at : Exit → ℕ × Inner
exit_at e = (e.port.0, inner_of e.from)

-- the first place of all
abbrev pub origin : Inner
origin = record { position = 0; port = 0 }

-- an end for each of so many ports: that of the link with the port
pub record AreByPort (ports : ℕ) (links : List (ℕ × Inner)) (ends : List Inner) : Type 0 where
  pub one_each : length ends ≡ ports
  pub each : (l : ℕ × Inner) → IsIn l links → get_or ends l.0 origin ≡ l.1

-- the head of a wiring is there, and its links are at different ports of it
pub record IsSound (modules : List Module) (w : Wiring) : Type 0 where
  pub head : w.head.0 < length modules
  pub entries_within : (k : ℕ) → IsIn k (entered_by w) → k < length (head_of modules w).inputs
  pub entries_differ : AllDiffer (entered_by w)
  pub exits_within : (k : ℕ) → IsIn k (left_by w) → k < length (head_of modules w).outputs
  pub exits_differ : AllDiffer (left_by w)

-- a production has the head, the positions and the edges of a wiring, and its entries and exits by the ports of the head
pub record IsRuleOf (modules : List Module) (w : Wiring) (r : Production) : Type 0 where
  pub head : r.head ≡ w.head.0
  pub positions : r.positions ≡ map position_of w.positions.items
  pub edges : r.edges ≡ map edge_of w.edges.items
  pub entries : AreByPort (length (head_of modules w).inputs) (map entry_of w.entries.items) r.entries
  pub exits : AreByPort (length (head_of modules w).outputs) (map exit_at w.exits.items) r.exits

-- a production for each wiring
pub record AreRulesOf (modules : List Module) (wirings : List Wiring) (rules : List Production) : Type 0 where
  pub as_many : length rules ≡ length wirings
  pub each : (k : ℕ) (w : Wiring) (r : Production) → IsAt w k wirings → IsAt r k rules → IsRuleOf modules w r
