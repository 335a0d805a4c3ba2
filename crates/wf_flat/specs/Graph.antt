-- Links between numbered instances.
use Rattle.std.specs.Prelude.{◌≡◌, ℕ, ◌+◌, ◌^◌, ◌%◌, ◌==◌, Bool, false, cond, ◌&&◌, List, [], ◌∷◌, ◌++◌, map, flat_map, get_or, length, Option, Some, None}
use Rattle.std.specs.Int.{bit_at}
use Rattle.wf_model.specs.declared.numbers.Side.{Side}
use Rattle.wf_model.specs.declared.numbers.Side.TheVariants.{Input, Output}
use Rattle.wf_model.specs.declared.numbers.ProdNo.{ProdNo}
use Rattle.wf_model.specs.Lists.{some, numbers_from}
use Rattle.wf_model.specs.Run.{Instance}
use Rattle.wf_flat.specs.declared.table.Inst.{Inst}
use Rattle.wf_flat.specs.declared.table.Opened.{Opened}
use Rattle.wf_flat.specs.Table.{instance_of, no_instance}
use Rattle.wf_model.specs.View.{View, expands}
use Rattle.wf_model.specs.Links.{Port, Link}
use Rattle.wf_model.specs.Grammar.{Grammar, Production, Edge, Inner, inputs_of, outputs_of, production_at}
use Rattle.wf_flat.specs.declared.graph.Port.{Port as PortHeld}
use Rattle.wf_flat.specs.declared.graph.Link.{Link as LinkHeld}

-- a port of a numbered instance, by the names of the instances
abbrev pub named_port : List (List ℕ) → PortHeld → Port (List ℕ)
named_port names x = record { owner = get_or names x.instance []; side = x.side; number = x.port.0 }

abbrev pub named_link : List (List ℕ) → LinkHeld → Link (List ℕ)
named_link names l = record { from = named_port names l.from; to = named_port names l.to }

abbrev pub named_links : List (List ℕ) → List LinkHeld → List (Link (List ℕ))
named_links names ls = map (named_link names) ls

-- a flag, and false past the end
abbrev pub flag_of : List Bool → ℕ → Bool
flag_of flags m = get_or flags m false

-- the flags mark the modules that the view expands
abbrev pub Marks : List Bool → View → Type 0
Marks flags u = (m : ℕ) → expands u m ≡ flag_of flags m

abbrev pub pair : ℕ → ℕ → ℕ → LinkHeld
pair k i o = record {
  from = record { instance = k; side = Input; port = record { 0 = i } };
  to = record { instance = k; side = Output; port = record { 0 = o } };
}

-- the pairs of a row, from output o on, n of them
abbrev pub row_links : ℕ → ℕ → ℕ → ℕ → ℕ → List LinkHeld
row_links k i row o n = flat_map (λ j. cond (bit_at row j == 1) (pair k i j ∷ []) []) (numbers_from o n)

-- the pairs of a matrix, from input i on, n of them
abbrev pub matrix_links : ℕ → List ℕ → ℕ → ℕ → ℕ → List LinkHeld
matrix_links k rows outputs i n = flat_map (λ j. row_links k j (get_or rows j 0) 0 outputs) (numbers_from i n)

-- a port of a position, where the children of an expansion begin at first
abbrev pub child_port : ℕ → Side → Inner → PortHeld
child_port first s i = record { instance = (first + i.position) % 2 ^ 32; side = s; port = record { 0 = i.port } }

abbrev pub own_port : ℕ → Side → ℕ → PortHeld
own_port k s n = record { instance = k; side = s; port = record { 0 = n } }

abbrev pub edge_at : ℕ → Edge → LinkHeld
edge_at first e = record { from = child_port first Output e.from; to = child_port first Input e.to }

abbrev pub entries_at : ℕ → ℕ → ℕ → List Inner → List LinkHeld
entries_at k first n [] = []
entries_at k first n (i ∷ is) = record { from = own_port k Input n; to = child_port first Input i } ∷ entries_at k first (n + 1) is

abbrev pub exits_at : ℕ → ℕ → ℕ → List Inner → List LinkHeld
exits_at k first n [] = []
exits_at k first n (i ∷ is) = record { from = child_port first Output i; to = own_port k Output n } ∷ exits_at k first (n + 1) is

-- the edges, entries and exits of an instance of a number, whose children begin at first
abbrev pub wiring_at : ℕ → ℕ → Production → List LinkHeld
wiring_at k first r = map (edge_at first) r.edges ++ (entries_at k first 0 r.entries ++ exits_at k first 0 r.exits)

-- the pairs of an instance of a number, by the rows of its module, if it has some
abbrev pub pairs_by : Grammar → ℕ → ℕ → Option (List ℕ) → List LinkHeld
pairs_by g m k None = []
pairs_by g m k (Some rows) = matrix_links k rows (outputs_of g m) 0 (inputs_of g m)

-- the pairs of an instance of a number, which is of the module m
abbrev pub pairs_at : Grammar → List (Option (List ℕ)) → ℕ → ℕ → List LinkHeld
pairs_at g leaf m k = pairs_by g m k (get_or leaf m None)

-- the links of an instance of a marked module: those of its production, or its pairs where it is not expanded
abbrev pub opened_at : Grammar → List (Option (List ℕ)) → Inst → ℕ → Option ProdNo → List LinkHeld
opened_at g leaf x k None = pairs_at g leaf x.module.0 k
opened_at g leaf x k (Some p) = wiring_at k x.first_child (production_at g p.0)

-- the links of the instance of a number, where it is seen
abbrev pub links_at : Grammar → List Bool → List (Option (List ℕ)) → List Inst → ℕ → List LinkHeld
links_at g marks leaf xs k =
    let x = get_or xs k no_instance in
    cond (flag_of marks x.module.0) (opened_at g leaf x k x.production) (pairs_at g leaf x.module.0 k)

-- the links of the instances of these numbers, one after the other
abbrev pub links_among : Grammar → List Bool → List (Option (List ℕ)) → List Inst → List ℕ → List LinkHeld
links_among g marks leaf xs numbers = flat_map (links_at g marks leaf xs) numbers

-- rows were made for the modules of a grammar: one per input, where they are set
pub record IsMadeFor (g : Grammar) (leaf : List (Option (List ℕ))) : Type 0 where
  pub each : length leaf ≡ length g.modules
  pub rows : (m : ℕ) (list : List ℕ) → get_or leaf m None ≡ Some list → length list ≡ inputs_of g m

-- flags mark the numbers of a list
abbrev pub Agree : List Bool → List ℕ → Type 0
Agree flags seen = (j : ℕ) → flag_of flags j ≡ some (λ c. c == j) seen

-- flags mark those numbers of a list whose instances are of marked modules
abbrev pub MarkOpen : List Bool → List Bool → List Inst → List ℕ → Type 0
MarkOpen flags marks xs seen = (j : ℕ) → flag_of flags j ≡ some (λ c. c == j) seen && flag_of marks (get_or xs j no_instance).module.0

-- the instance of a number, by its name and module
abbrev pub inst_at : List Inst → ℕ → Instance
inst_at xs k = instance_of (get_or xs k no_instance)

-- the numbers of the children that an expansion makes seen: all, if its instance is marked, and so is its module
abbrev pub children_seen : List Bool → List Bool → List Inst → Opened → List ℕ
children_seen flags marks xs o =
    cond (flag_of flags o.instance && flag_of marks (get_or xs o.instance no_instance).module.0) (numbers_from o.first o.count) []
