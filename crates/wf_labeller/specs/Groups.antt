-- The items of a run in groups, one for each event, and the bits of their labels.
use Rattle.std.specs.Prelude.{◌≡◌, ℕ, ◌+◌, ◌<◌, ◌≤◌, max, Bool, List, [], ◌∷◌, ◌++◌, Option, map, length, flat_map}
use Rattle.wf_model.specs.declared.numbers.Side.{Side}
use Rattle.wf_model.specs.declared.numbers.Side.TheVariants.{Input as InputSide, Output as OutputSide}
use Rattle.wf_model.specs.declared.event.Event.{Event}
use Rattle.wf_model.specs.Lists.{IsIn, numbers_from}
use Rattle.wf_model.specs.Grammar.{Grammar, production_at, inputs_of, outputs_of, alternative_of}
use Rattle.wf_model.specs.Items.{Item}
use Rattle.label_model.specs.Labels.{Label, label_bits, ending_bits}
use Rattle.label_model.specs.RunLabels.{labelled_by}
use Rattle.label_model.specs.Bound.{most_bits}
use Rattle.wf_run.specs.Runs.{Prefix, RunSeen, node_at}
use Rattle.wf_labeller.specs.declared.group.Maker.{Maker}
use Rattle.wf_labeller.specs.declared.group.Maker.TheVariants.{Root, Expansion}
use Rattle.wf_labeller.specs.declared.group.Group.{Group}
use Rattle.wf_labeller.specs.declared.measure.Measure.{Measure}
use Rattle.wf_labeller.specs.Entries.{port_label}

-- how many bits the longest of labels has; 0 where there is none
abbrev pub longest_of : List (List Bool) → ℕ
longest_of [] = 0
longest_of (b ∷ bs) = max (length b) (longest_of bs)

-- how many labels there are, and how many bits the longest has
pub record IsMeasureOf (labels : List (List Bool)) (m : Measure) : Type 0 where
  pub count_is : m.count ≡ length labels
  pub longest_is : m.longest ≡ longest_of labels

-- the labels of so many ports of one side of the root
abbrev pub ports_bits : Side → ℕ → List (List Bool)
ports_bits side n = map (λ k. label_bits (port_label side k)) (numbers_from 0 n)

-- the labels of the ports of the root
abbrev pub root_bits : Grammar → List (List Bool)
root_bits g = ports_bits InputSide (inputs_of g g.start) ++ ports_bits OutputSide (outputs_of g g.start)

-- the labels of the edges of a production, where an instance with this prefix is expanded by it
abbrev pub edges_bits : Grammar → ℕ → List Bool → Option ℕ → List (List Bool)
edges_bits g p bits chain = map (λ k. bits ++ ending_bits chain (alternative_of g p) k) (numbers_from 0 (length (production_at g p).edges))

-- so of a prefix as one value
abbrev pub expansion_bits : Grammar → ℕ → Prefix → List (List Bool)
expansion_bits g p x = edges_bits g p x.bits x.chain

-- the labels of the items that an event makes, from what the run keeps of the instance
abbrev pub bits_by : RunSeen → Maker → List (List Bool)
bits_by r Root = root_bits r.grammar.core
bits_by r (Expansion p n) = edges_bits r.grammar.core p.0 (node_at r n.0).bits (node_at r n.0).chain

-- the labels of the items of groups
abbrev pub all_bits : RunSeen → List Group → List (List Bool)
all_bits r groups = flat_map (λ (m : Group). bits_by r m.maker) groups

-- where a group ends
abbrev pub end_of : Group → ℕ
end_of m = m.end

-- each group ends behind its items, and the first begins here
abbrev pub AreEnded : RunSeen → ℕ → List Group → Type 0
AreEnded r from [] = Unit {0}
AreEnded r from (m ∷ ms) = (m.end ≡ from + length (bits_by r m.maker)) × AreEnded r m.end ms

-- the instance and the production are there
abbrev pub IsThere : RunSeen → Maker → Type 0
IsThere r Root = Unit {0}
IsThere r (Expansion p n) = (n.0 < length r.nodes) × (p.0 < length r.grammar.core.productions)

-- the items of the run stand in these groups, and the longest of their labels has so many bits
pub record IsGrouped (r : RunSeen) (groups : List Group) (longest : ℕ) : Type 0 where
  pub there : (m : Group) → IsIn m groups → IsThere r m.maker
  pub ended : AreEnded r 0 groups
  pub longest_is : longest ≡ longest_of (all_bits r groups)

-- a run with the labels of its items, in the order of making, each as its bits
pub record Labelled : Type 0 where
  pub run : RunSeen
  pub labels : List (List Bool)

-- the labels of items, each as its bits
abbrev pub bits_of_items : List (Item × Label) → List (List Bool)
bits_of_items items = map (λ t. label_bits t.1) items

-- the label of each item that the event makes has at most as many bits as the bound says of an event that is the n-th expand event or comes after n of them
abbrev pub AreLabelsWithin : Grammar → List Event → Event → ℕ → Type 0
AreLabelsWithin g events e n = (t : Item × Label) → IsIn t (labelled_by g events e) → length (label_bits t.1) ≤ most_bits g e n
