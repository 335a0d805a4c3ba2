-- The laws of what is seen, open and visible, in words.
use Rattle.std.specs.Prelude.{◌≡◌, ◌≢◌, ℕ, ◌⊎◌, ◌↔◌, List, [], Some, None}
use Rattle.wf_model.specs.Lists.{IsIn}
use Rattle.wf_model.specs.Grammar.{Grammar, body_of}
use Rattle.wf_model.specs.View.{View}
use Rattle.wf_model.specs.declared.event.Event.{Event}
use Rattle.wf_model.specs.Run.{Instance, Expanded, named, expanded_by, IsRun, seen_in, IsOpen, root_of}
use Rattle.wf_model.specs.Items.{Item, items, IsVisible}

-- the root of a run that has its start event
abbrev pub IsRoot : ℕ → List Event → Instance → Type 0
IsRoot m events j = (events ≢ []) × (j ≡ record { name = root_of events; module_no = m })

-- j stands in the expansion of i
abbrev pub IsChild : Grammar → List Event → Instance → Instance → Type 0
IsChild g events i j = (x : Expanded) × (expanded_by events i.name ≡ Some x) × IsIn j (named x.names (body_of g x.production))

-- the root is seen, the children of an open instance are seen, and nothing else is
abbrev pub OpenLaw : Type 0
OpenLaw =
    (g : Grammar) (u : View) (m : ℕ) (events : List Event) → IsRun g m events → (j : Instance) →
    IsIn j (seen_in g u m events) ↔ (IsRoot m events j ⊎ ((i : Instance) × IsOpen g u m events i × IsChild g events i j))

-- an item is visible exactly where it is a port of the root or was made by an open instance
abbrev pub VisibleLaw : Type 0
VisibleLaw =
    (g : Grammar) (u : View) (m : ℕ) (events : List Event) → (t : Item) → IsIn t (items g m events) →
    IsVisible g u m events t ↔ ((t.maker ≡ None) ⊎ ((i : Instance) × IsOpen g u m events i × (t.maker ≡ Some i.name)))
