-- The addresses of the instances of a run, and the labels of its items.
use Rattle.std.specs.Prelude.{◌≡◌, Bool, Option, ℕ, cond, List, [], ◌∷◌, ◌++◌, map, reverse, length, flat_map, zip, bytes_eq}
use Rattle.std.specs.List.{position_or_len}
use Rattle.wf_model.specs.Lists.{IsIn, some, numbers_from}
use Rattle.wf_model.specs.Grammar.{Grammar, production_at, inputs_of, outputs_of}
use Rattle.wf_model.specs.declared.event.Event.{Event}
use Rattle.wf_model.specs.declared.event.Event.TheVariants.{Start, Expand}
use Rattle.wf_model.specs.Reach.{Step}
use Rattle.wf_model.specs.Items.{Item, items_by}
use Rattle.label_model.specs.Labels.{Label, Input, Output, OfEdge, prefix_bits, IsLabel}
use Rattle.label_model.specs.Places.{steps_from, chain_from, place_of}

-- The address of an instance, from the latest event back. Where the event makes the instance, it is that of the instance which is expanded, and one step more
abbrev pub address_back : List Event → List ℕ → List Step
address_back [] n = []
address_back (Start r ∷ earlier) n = address_back earlier n
address_back (Expand i p names ∷ earlier) n =
    let made = some (bytes_eq n) names in
    address_back earlier (cond made i n) ++ cond made (record { production = p; position = position_or_len (bytes_eq n) names } ∷ []) []

-- the address of an instance of a run
unfoldable pub address_in : List Event → List ℕ → List Step
address_in events n = address_back (reverse events) n

-- the labels of the items that an event of a run makes, in order
abbrev pub labels_by : Grammar → List Event → Event → List Label
labels_by g events (Start r) = map Input (numbers_from 0 (inputs_of g g.start)) ++ map Output (numbers_from 0 (outputs_of g g.start))
labels_by g events (Expand i p names) = map (λ e. OfEdge (place_of g g.start (address_in events i) p e)) (numbers_from 0 (length (production_at g p).edges))

-- the items that an event of a run makes, each with its label
abbrev pub labelled_by : Grammar → List Event → Event → List (Item × Label)
labelled_by g events e = zip (items_by g g.start e) (labels_by g events e)

-- the items of a run, each with its label, in order of making
abbrev pub labelled : Grammar → List Event → List (Item × Label)
labelled g events = flat_map (labelled_by g events) events

-- the item has the label in the run. An item whose chain numbers are too large for a label has none
abbrev pub HasLabel : Grammar → List Event → Item → Label → Type 0
HasLabel g events t l = IsIn (t, l) (labelled g events) × IsLabel g l

-- what a run keeps of an instance: the bits with which each label begins that the instance may come to make, up to the last chain number, and this number
pub record IsPrefix (g : Grammar) (events : List Event) (n : List ℕ) (bits : List Bool) (chain : Option ℕ) : Type 0 where
  pub bits_are : bits ≡ prefix_bits (steps_from g g.start 0 (address_in events n))
  pub chain_is : chain ≡ chain_from g g.start 0 (address_in events n)
