-- The items of a held run, in order of making.
use Rattle.std.specs.Prelude.{◌≡◌, ℕ, ◌+◌, List, ◌++◌, map, flat_map, take, Some, None}
use Rattle.wf_model.specs.declared.numbers.Side.TheVariants.{Input, Output}
use Rattle.wf_model.specs.Lists.{IsIn, numbers_from}
use Rattle.wf_model.specs.Grammar.{Grammar, Edge, production_at, inputs_of, outputs_of}
use Rattle.wf_model.specs.Items.{items}
use Rattle.wf_flat.specs.declared.item.Item.{Item as ItemHeld}
use Rattle.wf_flat.specs.declared.table.Opened.{Opened}
use Rattle.wf_flat.specs.Table.{Table, events_of, names_in}
use Rattle.wf_chain.specs.HeldItems.{item_of, IsHeldItem}

-- the item of an input of the root, and that of an output
abbrev pub input_held : ℕ → ItemHeld
input_held k = record { maker = None; from = None; to = Some (record { instance = 0; side = Input; port = record { 0 = k } }) }

abbrev pub output_held : ℕ → ItemHeld
output_held k = record { maker = None; from = Some (record { instance = 0; side = Output; port = record { 0 = k } }); to = None }

-- the items of the ports of a root
abbrev pub ports_held : Grammar → List ItemHeld
ports_held g = map input_held (numbers_from 0 (inputs_of g g.start)) ++ map output_held (numbers_from 0 (outputs_of g g.start))

-- those of the root of a run, if it is started
abbrev pub root_held : Grammar → Table → List ItemHeld
root_held g t = flat_map (λ n. ports_held g) (take 1 (names_in t.instances))

-- the item of an edge of an expansion
abbrev pub edge_held : Opened → Edge → ItemHeld
edge_held o e = record {
  maker = Some o.instance;
  from = Some (record { instance = o.first + e.from.position; side = Output; port = record { 0 = e.from.port } });
  to = Some (record { instance = o.first + e.to.position; side = Input; port = record { 0 = e.to.port } });
}

-- those of its edges
abbrev pub opened_held : Grammar → Opened → List ItemHeld
opened_held g o = map (edge_held o) (production_at g o.production.0).edges

-- the items of the root and those of all edges, in order of making
abbrev pub all_held : Grammar → Table → List ItemHeld
all_held g t = root_held g t ++ flat_map (opened_held g) t.order

-- held items are those of the run in a table, in order of making
pub record AreItemsOf (g : Grammar) (t : Table) (is : List ItemHeld) : Type 0 where
  pub all : map (item_of g t) is ≡ items g g.start (events_of t)
  pub each : (i : ItemHeld) → IsIn i is → IsHeldItem g t i
