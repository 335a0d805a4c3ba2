-- The flat graph of a run: its links, paths between its ports, and the items that are shown.
use Rattle.std.specs.Prelude.{◌<◌, ◌↔◌, Bool, true, false, IsTrue, ℕ, List, length, map, get_or, Option, Some, None}
use Rattle.wf_model.specs.Lists.{IsIn, AllDiffer}
use Rattle.wf_model.specs.Grammar.{Grammar, Assignment}
use Rattle.wf_model.specs.Links.{Port, Link, Path}
use Rattle.wf_flat.specs.declared.graph.Port.{Port as PortHeld}
use Rattle.wf_flat.specs.declared.graph.Link.{Link as LinkHeld}
use Rattle.wf_flat.specs.declared.module_rows.Row.{Row}
use Rattle.wf_graph.specs.Search.{IsSearch}
use Rattle.wf_flat.specs.Table.{Table}
use Rattle.wf_flat.specs.Graph.{named_links, named_port}
use Rattle.wf_flat.specs.Seeing.{AreLinksBy}
use Rattle.wf_flat.specs.Leading.{AreSmall, IsIndex, led_from}

-- what contracts see of a flat graph: the number of the first port of each side, a word for each port, the rows that words name, and for each instance whether it is seen and of an expanded module
pub record FlatSeen : Type 0 where
  pub begins : List ℕ
  pub words : List ℕ
  pub rows : List Row
  pub opens : List Bool

-- what no instance made is shown, and what an instance made is shown where the flag of that instance is set
abbrev pub is_item_shown : List Bool → Option ℕ → Bool
is_item_shown opens None = true
is_item_shown opens (Some k) = get_or opens k false

-- a port of an instance that is known by its number
abbrev pub numbered_port : PortHeld → Port ℕ
numbered_port x = record { owner = x.instance; side = x.side; number = x.port.0 }

abbrev pub numbered_link : LinkHeld → Link ℕ
numbered_link l = record { from = numbered_port l.from; to = numbered_port l.to }

abbrev pub numbered_links : List LinkHeld → List (Link ℕ)
numbered_links ls = map numbered_link ls

-- the instances of the ports are below a number
abbrev pub AreWithin : ℕ → List LinkHeld → Type 0
AreWithin count ls = (l : LinkHeld) → IsIn l ls → (l.from.instance < count) × (l.to.instance < count)

-- the graph leads along these links, and along no others
abbrev pub IsGraphOf : List LinkHeld → FlatSeen → Type 0
IsGraphOf ls f = IsIndex ls f.begins f.words f.rows

-- the graph is that of the links of the run, by these pairs of the modules that are not expanded
abbrev pub IsGraphBy : Grammar → Table → List Bool → Assignment → FlatSeen → Type 0
IsGraphBy g t marks leaf f = (ls : List LinkHeld) × AreLinksBy g t marks leaf ls × AreWithin (length t.instances) ls × IsGraphOf ls f

-- what is known of the fields of a flat graph: no number is too large, it is the graph of some links, and of a search along them
pub record IsSearched (begins words : List ℕ) (rows : List Row) (marks : List Bool) (queue : List ℕ) (done : ℕ) : Type 0 where
  pub small : AreSmall words rows
  pub links : List LinkHeld
  pub index : IsIndex links begins words rows
  pub search : IsSearch (led_from words rows) (length words) marks queue done

-- an answer tells whether a path leads from a port to a port, in the links of which this is an index
abbrev pub TellsPath : List ℕ → List ℕ → List Row → PortHeld → PortHeld → Bool → Type 0
TellsPath begins words rows from to answer =
    (ls : List LinkHeld) → IsIndex ls begins words rows → IsTrue answer ↔ Path (numbered_links ls) (numbered_port from) (numbered_port to)

-- an answer tells whether a path leads from a port to a port in the links of a graph, by the names of the instances, if these differ and are there
abbrev pub TellsNamedPath : FlatSeen → PortHeld → PortHeld → Bool → Type 0
TellsNamedPath f from to answer =
    (ls : List LinkHeld) (names : List (List ℕ)) → IsGraphOf ls f → AllDiffer names → AreWithin (length names) ls → from.instance < length names → to.instance < length names →
    IsTrue answer ↔ Path (named_links names ls) (named_port names from) (named_port names to)
