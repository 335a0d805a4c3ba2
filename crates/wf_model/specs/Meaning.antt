-- What contracts see of positions, ports and edges.
use Rattle.std.specs.Prelude.{ℕ, List, Option, Some, None, Bool, false, ◌==◌, get_or}
use Rattle.std.specs.Int.{bit_at}
use Rattle.wf_model.specs.declared.body.Position.{Position as PositionHeld}
use Rattle.wf_model.specs.declared.body.Inner.{Inner as InnerHeld}
use Rattle.wf_model.specs.declared.body.Edge.{Edge as EdgeHeld}
use Rattle.wf_model.specs.Grammar.{Position, Inner, Edge, Assignment}

-- a position, as the definitions see it
abbrev pub position_of : PositionHeld → Position
position_of p = record { name = p.name; module_no = p.module.0 }

-- a port of a position, as they see it
abbrev pub inner_of : InnerHeld → Inner
inner_of i = record { position = i.pos.0; port = i.port.0 }

-- an edge, as they see it
abbrev pub edge_of : EdgeHeld → Edge
edge_of e = record { from = inner_of e.from; to = inner_of e.to }

-- a bit of a matrix
abbrev pub bit_of : Option (List ℕ) → ℕ → ℕ → Bool
bit_of None i o = false
bit_of (Some rows) i o = bit_at (get_or rows i 0) o == 1

-- the pairs whose bits are set, and none for a module without rows
abbrev pub pairs_of : List (Option (List ℕ)) → Assignment
pairs_of d m i o = bit_of (get_or d m None) i o
