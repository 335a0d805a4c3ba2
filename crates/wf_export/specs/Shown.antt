-- What the tables of a run under a view tell: its lines by numbers of instances.
use Rattle.std.specs.Prelude.{◌≡◌, ℕ, ◌+◌, ◌<◌, ◌≤◌, Bool, cond, is_some, List, [], ◌++◌, map, flat_map, take, drop, length, get_or, codes, Option}
use Rattle.wf_model.specs.Lists.{IsIn}
use Rattle.wf_model.specs.Grammar.{Grammar, Edge, production_at, module_at}
use Rattle.wf_model.specs.WellFormed.{IsWellFormed}
use Rattle.wf_model.specs.View.{View, expands}
use Rattle.wf_model.specs.Run.{opens, seen_in}
use Rattle.wf_model.specs.Links.{links}
use Rattle.wf_model.specs.Items.{dotted}
use Rattle.wf_flat.specs.declared.table.Inst.{Inst}
use Rattle.wf_flat.specs.declared.table.Opened.{Opened}
use Rattle.wf_flat.specs.declared.graph.Port.{Port as PortHeld}
use Rattle.wf_flat.specs.declared.graph.Link.{Link as LinkHeld}
use Rattle.wf_flat.specs.Table.{Table, IsTableOf, IsOpenedIn, events_of, names_in, no_instance}
use Rattle.wf_flat.specs.Graph.{named_links, flag_of, inst_at, links_at, links_among, IsMadeFor}
use Rattle.wf_flat.specs.Flat.{AreWithin}
use Rattle.wf_flat.specs.Shown.{RunSeen}
use Rattle.wf_export.specs.ExportText.{named_line, item_line, ports_on}

-- a run of a well-formed grammar as a view shows it: the numbers of its seen instances, where its expansions lead, and whether each instance is open once it is expanded
pub record IsRunSeen (g : Grammar) (u : View) (t : Table) (shown : RunSeen) : Type 0 where
  pub grammar : IsWellFormed g
  pub run : IsTableOf g t
  pub seen : map (inst_at t.instances) shown.numbers ≡ seen_in g u g.start (events_of t)
  pub there : (k : ℕ) → IsIn k shown.numbers → k < length t.instances
  pub opened : (o : Opened) → IsIn o t.order → IsOpenedIn (length t.instances) o
  pub opens : (k : ℕ) → k < length t.instances → flag_of shown.opens k ≡ opens u (seen_in g u g.start (events_of t)) (get_or (names_in t.instances) k [])

-- rows for the modules that are not expanded, by which the seen instances have the links of the run
pub record AreLinksSeen (g : Grammar) (u : View) (t : Table) (rows : List (Option (List ℕ))) (shown : RunSeen) : Type 0 where
  pub made_for : IsMadeFor g rows
  pub links : named_links (names_in t.instances) (links_among g shown.marks rows t.instances shown.numbers) ≡ links g u g.start (events_of t)
  pub within : AreWithin (length t.instances) (links_among g shown.marks rows t.instances shown.numbers)

-- the line of an instance of the table, where it is seen
abbrev pub held_instance_line : Grammar → View → Inst → List ℕ
held_instance_line g u x =
    cond (expands u x.module.0)
    (cond (is_some x.production) [] (named_line (codes "pending ") x.name (module_at g x.module.0).name))
    (named_line (codes "leaf ") x.name (module_at g x.module.0).name)

-- the lines of the items at ports of an instance
abbrev pub port_lines : List ℕ → List (List ℕ) → List ℕ
port_lines name ports = flat_map (λ p. item_line (dotted name p)) ports

-- the lines of the ports of a root of this name: its inputs and its outputs
abbrev pub root_port_lines : Grammar → List ℕ → List ℕ
root_port_lines g name = port_lines name (module_at g g.start).inputs ++ port_lines name (module_at g g.start).outputs

-- the lines of the ports of the root, where there is one
abbrev pub root_lines : Grammar → List Inst → List ℕ
root_lines g xs = flat_map (λ (x : Inst). root_port_lines g x.name) (take 1 xs)

-- the line of the item of an edge between these instances
abbrev pub held_edge_line : Grammar → List Inst → Edge → List ℕ
held_edge_line g xs e =
    let x = get_or xs e.from.position no_instance in
    item_line (dotted x.name (get_or (module_at g x.module.0).outputs e.from.port []))

-- the lines of the items that an expansion makes, where the flag of its instance is set
abbrev pub expansion_lines : Grammar → List Inst → List Bool → Opened → List ℕ
expansion_lines g xs flags o = cond (flag_of flags o.instance) (flat_map (held_edge_line g (take o.count (drop o.first xs))) (production_at g o.production.0).edges) []

-- the lines of the items that the expansions make, in their order
abbrev pub expansions_text : Grammar → Table → List Bool → List ℕ
expansions_text g t flags = flat_map (expansion_lines g t.instances flags) t.order

-- the lines of the items: of the root's ports, and of what the expansions make
abbrev pub held_items_text : Grammar → Table → List Bool → List ℕ
held_items_text g t flags = root_lines g t.instances ++ expansions_text g t flags

-- the production of an expansion is there, and so are the instances at its positions
pub record IsReady (g : Grammar) (count : ℕ) (o : Opened) : Type 0 where
  pub in_range : o.production.0 < length g.productions
  pub within : o.first + o.count ≤ count
  pub edges : (e : Edge) → IsIn e (production_at g o.production.0).edges → e.from.position < o.count

-- a port by its name
abbrev pub held_port_text : Grammar → List Inst → PortHeld → List ℕ
held_port_text g xs x =
    let owner = get_or xs x.instance no_instance in
    dotted owner.name (get_or (ports_on (module_at g owner.module.0) x.side) x.port.0 [])

-- the line of a link
abbrev pub held_link_line : Grammar → List Inst → LinkHeld → List ℕ
held_link_line g xs l = codes "link " ++ (held_port_text g xs l.from ++ (codes " " ++ (held_port_text g xs l.to ++ codes "\n")))

-- the lines of links
abbrev pub held_links_text : Grammar → List Inst → List LinkHeld → List ℕ
held_links_text g xs ls = flat_map (held_link_line g xs) ls

-- the lines of the links of a seen instance
abbrev pub instance_links_text : Grammar → List Bool → List (Option (List ℕ)) → List Inst → ℕ → List ℕ
instance_links_text g marks rows xs k = held_links_text g xs (links_at g marks rows xs k)

-- the lines of the links of the seen instances, one after the other
abbrev pub seen_links_text : Grammar → RunSeen → List (Option (List ℕ)) → List Inst → List ℕ
seen_links_text g shown rows xs = flat_map (instance_links_text g shown.marks rows xs) shown.numbers
