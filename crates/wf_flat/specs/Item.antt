-- Items of a run, by the numbers of its instances.
use Rattle.std.specs.Prelude.{◌≡◌, ℕ, ◌<◌, ◌+◌, ◌-◌, ◌++◌, List, [], ◌∷◌, cond, get_or, option_map, bytes_eq, IfSome, Option, Some, None}
use Rattle.wf_model.specs.Lists.{IsIn}
use Rattle.wf_model.specs.declared.numbers.Side.TheVariants.{Input, Output}
use Rattle.wf_model.specs.Grammar.{Grammar, Edge, Module}
use Rattle.wf_model.specs.Items.{Item, dotted, items, input_items, output_items}
use Rattle.wf_flat.specs.declared.item.Item.{Item as ItemHeld}
use Rattle.wf_flat.specs.Graph.{named_port}
use Rattle.wf_flat.specs.Table.{Table, events_of, names_in}

-- the first item of this name
abbrev pub item_named : List Item → List ℕ → Option Item
item_named [] n = None
item_named (t ∷ ts) n = cond (bytes_eq t.name n) (Some t) (item_named ts n)

-- an item of this name, by the names of the instances
abbrev pub named_item : List (List ℕ) → List ℕ → ItemHeld → Item
named_item names name i = record {
  name = name;
  maker = option_map (λ k. get_or names k []) i.maker;
  produced = option_map (named_port names) i.from;
  consumed = option_map (named_port names) i.to;
}

-- the instances of an item are among so many
pub record IsItemWithin (count : ℕ) (i : ItemHeld) : Type 0 where
  pub maker : IfSome i.maker (λ k. k < count)
  pub from : IfSome i.from (λ x. x.instance < count)
  pub to : IfSome i.to (λ x. x.instance < count)

-- the item of an edge that leaves an output of instance k, where the parent's children begin at first
pub record IsItemOfEdge (parent first k o : ℕ) (e : Edge) (i : ItemHeld) : Type 0 where
  pub leaves : e.from ≡ record { position = k - first; port = o }
  pub maker : i.maker ≡ Some parent
  pub from : i.from ≡ Some (record { instance = k; side = Output; port = record { 0 = o } })
  pub to : i.to ≡ Some (record { instance = first + e.to.position; side = Input; port = record { 0 = e.to.port } })

-- the run in a table has this item, under this name
abbrev pub IsItemNamed : Grammar → Table → List ℕ → ItemHeld → Type 0
IsItemNamed g t name i = IsIn (named_item (names_in t.instances) name i) (items g g.start (events_of t))

-- it has no item of this name
abbrev pub HasNoItem : Grammar → Table → List ℕ → Type 0
HasNoItem g t name = (i : Item) → IsIn i (items g g.start (events_of t)) → i.name ≡ name → ⊥

-- the name that a port of the instance of a number gives to an item
abbrev pub item_name_at : Table → ℕ → List ℕ → List ℕ
item_name_at t k port = dotted (get_or (names_in t.instances) k []) port

-- this is the item of a port of a root of this module, whose number is k, whatever the names are
abbrev pub IsRootItem : Module → ℕ → List ℕ → ItemHeld → Type 0
IsRootItem m k port i =
    (names : List (List ℕ)) → let root = get_or names k [] in IsIn (named_item names (dotted root port) i) (input_items root 0 m.inputs ++ output_items root 0 m.outputs)
