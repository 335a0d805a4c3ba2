-- Words for writing down small grammars, runs and links.
use Rattle.std.specs.Prelude.{ℕ, List, codes}
use Prim.Native.String.{String}
use Rattle.wf_model.specs.Grammar.{Module, Position, Inner, Edge}
use Rattle.wf_model.specs.Links.{Port, Link, input, output}

-- a module with its input and output ports
abbrev pub a_module : String → List (List ℕ) → List (List ℕ) → Module
a_module n inputs outputs = record { name = codes n; inputs = inputs; outputs = outputs }

-- a position with the number of its module
abbrev pub at : String → ℕ → Position
at n m = record { name = codes n; module_no = m }

-- a port of a position, both by number
abbrev pub port : ℕ → ℕ → Inner
port k i = record { position = k; port = i }

-- from an output of a position to an input of a position
abbrev pub edge : ℕ → ℕ → ℕ → ℕ → Edge
edge k i l j = record { from = port k i; to = port l j }

-- an input of an instance
abbrev pub into : String → ℕ → Port (List ℕ)
into n i = input (codes n) i

-- an output of an instance
abbrev pub out : String → ℕ → Port (List ℕ)
out n i = output (codes n) i

-- from one port to another
abbrev pub link : Port (List ℕ) → Port (List ℕ) → Link (List ℕ)
link x y = record { from = x; to = y }
