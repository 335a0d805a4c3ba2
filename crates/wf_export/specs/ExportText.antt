-- The text of a run under a view: its instances that are not open, its visible items, and its links.
use Rattle.std.specs.Prelude.{ℕ, cond, is_some, List, [], ◌++◌, get_or, flat_map, codes}
use Rattle.wf_model.specs.declared.event.Event.{Event}
use Rattle.wf_model.specs.declared.numbers.Side.{Side}
use Rattle.wf_model.specs.declared.numbers.Side.TheVariants.{Input, Output}
use Rattle.wf_model.specs.Grammar.{Grammar, Module, module_at}
use Rattle.wf_model.specs.View.{View, expands}
use Rattle.wf_model.specs.Run.{Instance, made, expanded_by, seen_in}
use Rattle.wf_model.specs.Faults.{module_in}
use Rattle.wf_model.specs.Links.{Port, Link, links}
use Rattle.wf_model.specs.Items.{Item, items, dotted}
use Rattle.wf_flat.specs.Shown.{is_made_open}

-- a line of a word, the name of an instance and the name of its module
abbrev pub named_line : List ℕ → List ℕ → List ℕ → List ℕ
named_line word name module_name = word ++ (name ++ (codes " " ++ (module_name ++ codes "\n")))

-- the line of a seen instance: a leaf where the view does not expand its module, pending where it does and the run does not expand the instance. An open instance has no line
abbrev pub instance_line : Grammar → View → List Event → Instance → List ℕ
instance_line g u e i =
    cond (expands u i.module_no)
    (cond (is_some (expanded_by e i.name)) [] (named_line (codes "pending ") i.name (module_at g i.module_no).name))
    (named_line (codes "leaf ") i.name (module_at g i.module_no).name)

-- the line of an item of this name
abbrev pub item_line : List ℕ → List ℕ
item_line name = codes "item " ++ (name ++ codes "\n")

-- the line of an item that is visible; a hidden one has none
abbrev pub visible_line : Grammar → View → List Event → Item → List ℕ
visible_line g u e t = cond (is_made_open g u e t.maker) (item_line t.name) []

-- the names of the ports of a module on a side
abbrev pub ports_on : Module → Side → List (List ℕ)
ports_on m Input = m.inputs
ports_on m Output = m.outputs

-- a port of one of these instances: the name of the instance, a dot, and the name that the port has in the module of the instance
abbrev pub port_text : Grammar → List Instance → Port (List ℕ) → List ℕ
port_text g is x = dotted x.owner (get_or (ports_on (module_at g (module_in is x.owner)) x.side) x.number [])

-- the line of a link between ports of these instances
abbrev pub link_line : Grammar → List Instance → Link (List ℕ) → List ℕ
link_line g is l = codes "link " ++ (port_text g is l.from ++ (codes " " ++ (port_text g is l.to ++ codes "\n")))

-- the lines of the instances that are seen and not open, in order of making
abbrev pub instances_text : Grammar → View → List Event → List ℕ
instances_text g u e = flat_map (instance_line g u e) (seen_in g u g.start e)

-- the lines of the visible items, in order of making
abbrev pub items_text : Grammar → View → List Event → List ℕ
items_text g u e = flat_map (visible_line g u e) (items g g.start e)

-- the lines of the links, in their order
abbrev pub links_text : Grammar → View → List Event → List ℕ
links_text g u e = flat_map (link_line g (made g g.start e)) (links g u g.start e)

-- The text of a run under a view
abbrev pub export_text : Grammar → View → List Event → List ℕ
export_text g u e = instances_text g u e ++ (items_text g u e ++ links_text g u e)
