-- Entries as the definitions see them, and how long their labels are.
use Rattle.std.specs.Prelude.{◌≡◌, ℕ, ◌≤◌, Bool, List, [], ◌++◌, Option, length, get_or, map, zip}
use Rattle.wf_model.specs.declared.numbers.Side.{Side}
use Rattle.wf_model.specs.declared.numbers.Side.TheVariants.{Input as InputSide, Output as OutputSide}
use Rattle.wf_model.specs.Lists.{IsIn, numbers_from}
use Rattle.wf_model.specs.Grammar.{Grammar, Inner, Edge, module_at, body_of, alternative_of, production_at}
use Rattle.wf_model.specs.declared.event.Event.{Event}
use Rattle.wf_model.specs.Items.{Item, dotted, input_items, output_items}
use Rattle.bit_pack.specs.Bits.{packed}
use Rattle.label_model.specs.Files.{Entry, entry_of}
use Rattle.label_model.specs.Labels.{Label, Input, Output, label_bits, ending_bits}
use Rattle.label_model.specs.RunLabels.{labelled_by}
use Rattle.label_model.specs.Bound.{most_bits}
use Rattle.wf_run.specs.Runs.{Prefix}
use Rattle.wf_labeller.specs.declared.entry.Entry.{Entry as EntryHeld}

-- an entry
abbrev pub entry_seen : EntryHeld → Entry
entry_seen e = record { name = e.name; label = e.label }

-- the entry is that of an item that the event makes, and the label of the item has at most as many bits as the bound says of an event that is the n-th expand event or comes after n of them
pub record HasLabelWithin (g : Grammar) (events : List Event) (e : Event) (n : ℕ) (x : Entry) : Type 0 where
  pub labelled : Item × Label
  pub made : IsIn labelled (labelled_by g events e)
  pub is : x ≡ entry_of labelled
  pub few : length (label_bits labelled.1) ≤ most_bits g e n

-- each of the entries is so
abbrev pub HaveLabelsWithin : Grammar → List Event → Event → ℕ → List Entry → Type 0
HaveLabelsWithin g events e n entries = (x : Entry) → IsIn x entries → HasLabelWithin g events e n x

-- the label of a port of the root
abbrev pub port_label : Side → ℕ → Label
port_label InputSide k = Input k
port_label OutputSide k = Output k

-- the items of the ports of one side of the root r, from the k-th port on, each with its label
abbrev pub labelled_ports : Side → List ℕ → ℕ → List (List ℕ) → List (Item × Label)
labelled_ports InputSide r k ports = zip (input_items r k ports) (map Input (numbers_from k (length ports)))
labelled_ports OutputSide r k ports = zip (output_items r k ports) (map Output (numbers_from k (length ports)))

-- the edges of a list, from the k-th on, each with its number
abbrev pub numbered_edges : ℕ → List Edge → List (Edge × ℕ)
numbered_edges k edges = zip edges (numbers_from k (length edges))

-- the name of an output of a position of a body
abbrev pub body_output_name : Grammar → ℕ → Inner → List ℕ
body_output_name g p from = get_or (module_at g (get_or (body_of g p) from.position 0)).outputs from.port []

-- the entry of the item of an edge of a production: its label is the prefix of the instance that is expanded, and the ending
abbrev pub edge_entry : Grammar → ℕ → List (List ℕ) → List Bool → Option ℕ → Edge × ℕ → Entry
edge_entry g p names bits chain t = record { name = dotted (get_or names t.0.from.position []) (body_output_name g p t.0.from); label = packed (bits ++ ending_bits chain (alternative_of g p) t.1) }

-- the entries of the items of all edges of a production, where an instance with this prefix is expanded by it into instances of these names
abbrev pub expansion_entries : Grammar → ℕ → List (List ℕ) → Prefix → List Entry
expansion_entries g p names x = map (edge_entry g p names x.bits x.chain) (numbered_edges 0 (production_at g p).edges)
