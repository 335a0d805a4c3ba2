-- The items of a run, and how one depends on another.
use Rattle.std.specs.Prelude.{◌≡◌, ℕ, suc, IsTrue, List, [], ◌∷◌, ◌++◌, map, get_or, flat_map, Option, Some, None, codes}
use Rattle.wf_model.specs.Grammar.{Grammar, Edge, production_at, module_at, body_of}
use Rattle.wf_model.specs.WellFormed.{IsShortName}
use Rattle.wf_model.specs.View.{View}
use Rattle.wf_model.specs.declared.event.Event.{Event}
use Rattle.wf_model.specs.declared.event.Event.TheVariants.{Start, Expand}
use Rattle.wf_model.specs.Run.{seen_in, opens}
use Rattle.wf_model.specs.Links.{Port, input, output, links, Path}

-- an item: its name, the instance that made it (none for a port of the root), the port where it is produced (none for an input of the root), and the port where it is consumed (none for an output of the root)
pub record Item : Type 0 where
  pub name : List ℕ
  pub maker : Option (List ℕ)
  pub produced : Option (Port (List ℕ))
  pub consumed : Option (Port (List ℕ))

-- an instance's name, a dot and a port's name
abbrev pub dotted : List ℕ → List ℕ → List ℕ
dotted a b = a ++ codes "." ++ b

-- the name is that of an instance and that of a port, with a dot between
abbrev pub IsNameOf : List ℕ → List ℕ → List ℕ → Type 0
IsNameOf name instance port = (name ≡ dotted instance port) × IsShortName instance × IsShortName port

-- the name of an item: the names of an instance and of a port, with a dot between
abbrev pub IsItemName : List ℕ → Type 0
IsItemName name = (instance : List ℕ) × (port : List ℕ) × IsNameOf name instance port

-- the inputs of the root, from the k-th on
abbrev pub input_items : List ℕ → ℕ → List (List ℕ) → List Item
input_items r k [] = []
input_items r k (n ∷ ns) = record { name = dotted r n; maker = None; produced = None; consumed = Some (input r k) } ∷ input_items r (suc k) ns

-- the outputs of the root, from the k-th on
abbrev pub output_items : List ℕ → ℕ → List (List ℕ) → List Item
output_items r k [] = []
output_items r k (n ∷ ns) = record { name = dotted r n; maker = None; produced = Some (output r k); consumed = None } ∷ output_items r (suc k) ns

-- the item of an edge of an instance that is expanded with these names
abbrev pub edge_item : Grammar → List ℕ → ℕ → List (List ℕ) → Edge → Item
edge_item g i p names e =
    let from = get_or names e.from.position [] in
    let to = get_or names e.to.position [] in
    record {
      name = dotted from (get_or (module_at g (get_or (body_of g p) e.from.position 0)).outputs e.from.port []);
      maker = Some i;
      produced = Some (output from e.from.port);
      consumed = Some (input to e.to.port);
    }

-- the items that an event makes, in a run from module m
abbrev pub items_by : Grammar → ℕ → Event → List Item
items_by g m (Start r) = input_items r 0 (module_at g m).inputs ++ output_items r 0 (module_at g m).outputs
items_by g m (Expand i p names) = map (edge_item g i p names) (production_at g p).edges

-- the items of a run from module m, in order of making
abbrev pub items : Grammar → ℕ → List Event → List Item
items g m events = flat_map (items_by g m) events

-- made by an open instance
abbrev pub IsMadeOpen : Grammar → View → ℕ → List Event → Option (List ℕ) → Type 0
IsMadeOpen g u m events None = Unit {0}
IsMadeOpen g u m events (Some i) = IsTrue (opens u (seen_in g u m events) i)

-- an item is visible where it is a port of the root or was made by an open instance
abbrev pub IsVisible : Grammar → View → ℕ → List Event → Item → Type 0
IsVisible g u m events t = IsMadeOpen g u m events t.maker

-- a path between ports that may not be there
abbrev pub PathBetween : Grammar → View → ℕ → List Event → Option (Port (List ℕ)) → Option (Port (List ℕ)) → Type 0
PathBetween g u m events None y = ⊥
PathBetween g u m events (Some x) None = ⊥
PathBetween g u m events (Some x) (Some y) = Path (links g u m events) x y

-- B depends on A where a path leads from the port that consumes A to the port that produces B; so nothing depends on an output of the root, and an input of the root depends on nothing
abbrev pub Depends : Grammar → View → List Event → Item → Item → Type 0
Depends g u events a b = PathBetween g u g.start events a.consumed b.produced
