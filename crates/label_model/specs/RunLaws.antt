-- Laws of the addresses of the instances of a run, and of the labels of its items.
use Rattle.std.specs.Prelude.{◌≡◌, ◌≢◌, ℕ, ◌+◌, ◌^◌, ◌≤◌, Bool, true, List, [], ◌∷◌, ◌++◌, length, Option, Some}
use Rattle.wf_model.specs.Lists.{IsIn, IsAt}
use Rattle.wf_model.specs.Grammar.{Grammar, head_of, alternative_of}
use Rattle.wf_model.specs.WellFormed.{IsWellFormed}
use Rattle.wf_model.specs.declared.event.Event.{Event}
use Rattle.wf_model.specs.declared.event.Event.TheVariants.{Start, Expand}
use Rattle.wf_model.specs.Run.{Instance, IsRun, IsAccepted, made, names_of, root_of}
use Rattle.wf_model.specs.Items.{Item, items}
use Rattle.wf_model.specs.Reach.{target_of, module_along}
use Rattle.wf_model.specs.Routes.{IsAddress, IsRoute}
use Rattle.label_model.specs.Continuing.{continuing}
use Rattle.label_model.specs.Labels.{Label, OfEdge, step_bits, ending_bits, label_bits, IsLabel}
use Rattle.label_model.specs.Places.{chain_at, place_of}
use Rattle.label_model.specs.RunLabels.{address_in, labelled, HasLabel, IsPrefix}
use Rattle.label_model.specs.Bound.{expand_events}

-- the address of an instance of a run leads to it from the root, and stays its address as the run goes on; it has no more steps than there are expand events
abbrev pub InstanceLaw : Type 0
InstanceLaw =
    (g : Grammar) (m : ℕ) (events more : List Event) (i : Instance) → IsRun g m (events ++ more) → IsIn i (made g m events) →
    record {
      address : IsAddress events (root_of events) (address_in events i.name) i.name;
      route : IsRoute g m (address_in events i.name);
      ends : module_along g m (address_in events i.name) ≡ i.module_no;
      same : address_in (events ++ more) i.name ≡ address_in events i.name;
      short : length (address_in events i.name) ≤ expand_events events;
    }

-- What a run keeps of its instances where one of them is expanded. An instance that is there keeps what it has.
-- A child by the continuing step has its parent's bits, and a chain number one higher.
-- Any other child has the bits of one step more, and its chain begins. The label of an item is what is kept of its maker, and the ending
pub record Keeps (g : Grammar) (events : List Event) (i : List ℕ) (p : ℕ) (names : List (List ℕ)) : Type 0 where
  pub old : (n : List ℕ) (bits : List Bool) (chain : Option ℕ) → IsIn n (names_of (made g g.start events)) → IsPrefix g events n bits chain → IsPrefix g (events ++ Expand i p names ∷ []) n bits chain
  pub goes_on : (n : List ℕ) (k : ℕ) (bits : List Bool) (c : ℕ) → IsAt n k names → continuing g (head_of g p) ≡ Some (record { production = p; position = k }) → IsPrefix g events i bits (Some c) →
      IsPrefix g (events ++ Expand i p names ∷ []) n bits (Some (c + 1))
  pub leaves : (n : List ℕ) (k : ℕ) (bits : List Bool) (chain : Option ℕ) → IsAt n k names → continuing g (head_of g p) ≢ Some (record { production = p; position = k }) → IsPrefix g events i bits chain →
      IsPrefix g (events ++ Expand i p names ∷ []) n (bits ++ step_bits (record { chain = chain; alternative = alternative_of g p; position = k })) (chain_at g (target_of g (record { production = p; position = k })) 0)
  pub label : (e : ℕ) (bits : List Bool) (chain : Option ℕ) → IsPrefix g (events ++ Expand i p names ∷ []) i bits chain →
      label_bits (OfEdge (place_of g g.start (address_in (events ++ Expand i p names ∷ []) i) p e)) ≡ bits ++ ending_bits chain (alternative_of g p) e

-- the root begins with the first bit of the label of an edge, and expand events keep what a run keeps
abbrev pub PrefixInRunLaw : Type 0
PrefixInRunLaw =
    (g : Grammar) → IsWellFormed g →
    record {
      root : (r : List ℕ) → IsPrefix g (Start r ∷ []) r (true ∷ []) (chain_at g g.start 0);
      keeps : (events : List Event) (i : List ℕ) (p : ℕ) (names : List (List ℕ)) → IsRun g g.start (events ++ Expand i p names ∷ []) → Keeps g events i p names;
    }

-- in an accepted run each item has a label, and what is listed with an item is a label of the grammar
abbrev pub LabelLaw : Type 0
LabelLaw =
    (g : Grammar) → IsWellFormed g → (events : List Event) → IsAccepted g (2 ^ 24) events →
    record {
      each : (t : Item) → IsIn t (items g g.start events) → (l : Label) × HasLabel g events t l;
      labels : (t : Item) (l : Label) → IsIn (t, l) (labelled g events) → IsLabel g l;
    }

-- items of one run with one label are one item
abbrev pub OneItemLaw : Type 0
OneItemLaw =
    (g : Grammar) (events : List Event) (t u : Item) (l : Label) → IsWellFormed g → IsRun g g.start events → IsIn (t, l) (labelled g events) → IsIn (u, l) (labelled g events) → t ≡ u
