-- Ports of positions whose numbers, in each of k states, are below 64.
use Rattle.std.specs.Prelude.{ℕ, ◌+◌, ◌*◌, ◌≤◌, List}
use Rattle.wf_model.specs.Lists.{IsIn}
use Rattle.wf_model.specs.Grammar.{Inner, Edge, Production}

-- a port of a position has a number below 64 in each of k states
abbrev pub HasRoom : ℕ → Inner → Type 0
HasRoom k i = i.port * k + k ≤ 64

-- so have all of a list
abbrev pub HaveRoom : ℕ → List Inner → Type 0
HaveRoom k is = (i : Inner) → IsIn i is → HasRoom k i

-- so have both ends of all edges of a list
abbrev pub EdgesHaveRoom : ℕ → List Edge → Type 0
EdgesHaveRoom k es = (e : Edge) → IsIn e es → HasRoom k e.from × HasRoom k e.to

-- so have all ports in a production
pub record HasRoomIn (k : ℕ) (r : Production) : Type 0 where
  pub edges : EdgesHaveRoom k r.edges
  pub entries : HaveRoom k r.entries
  pub exits : HaveRoom k r.exits
