-- Items and instances of a held run as the definitions see them.
use Rattle.std.specs.Prelude.{ℕ, List, [], length, get_or, Option, Some, None}
use Rattle.wf_model.specs.declared.numbers.Side.{Side}
use Rattle.wf_model.specs.declared.numbers.Side.TheVariants.{Input, Output}
use Rattle.wf_model.specs.Lists.{IsIn}
use Rattle.wf_model.specs.Grammar.{Grammar, Module, module_at}
use Rattle.wf_model.specs.Items.{Item, dotted, items}
use Rattle.wf_flat.specs.declared.graph.Port.{Port as PortHeld}
use Rattle.wf_flat.specs.declared.item.Item.{Item as ItemHeld}
use Rattle.wf_flat.specs.Table.{Table, events_of, names_in, no_instance}
use Rattle.wf_flat.specs.Item.{named_item, IsItemWithin}

-- the names of the ports of a module on one side
abbrev pub side_names : Side → Module → List (List ℕ)
side_names Input m = m.inputs
side_names Output m = m.outputs

-- the module of the instance of a number
abbrev pub module_of : Grammar → Table → ℕ → Module
module_of g t k = module_at g (get_or t.instances k no_instance).module.0

-- the name of the instance of a port, a dot and the name of the port
abbrev pub port_name : Grammar → Table → PortHeld → List ℕ
port_name g t p = dotted (get_or (names_in t.instances) p.instance []) (get_or (side_names p.side (module_of g t p.instance)) p.port.0 [])

-- an item is named by the output that produces it, and by the input that consumes it where none does
abbrev pub name_by : Grammar → Table → Option PortHeld → Option PortHeld → List ℕ
name_by g t (Some p) to = port_name g t p
name_by g t None (Some p) = port_name g t p
name_by g t None None = []

abbrev pub item_name : Grammar → Table → ItemHeld → List ℕ
item_name g t i = name_by g t i.from i.to

-- the item that a held item is
abbrev pub item_of : Grammar → Table → ItemHeld → Item
item_of g t i = named_item (names_in t.instances) (item_name g t i) i

-- a held item is one of the run in the table
pub record IsHeldItem (g : Grammar) (t : Table) (i : ItemHeld) : Type 0 where
  pub there : IsIn (item_of g t i) (items g g.start (events_of t))
  pub within : IsItemWithin (length t.instances) i
