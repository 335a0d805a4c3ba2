-- What an event adds to the labels and the entries of a run that takes it, whatever the events are that it is the run of.
use Rattle.std.specs.Prelude.{◌≡◌, ℕ, ◌<◌, ◌≤◌, Bool, List, [], ◌∷◌, ◌++◌, None, map, length}
use Rattle.wf_model.specs.declared.event.Event.{Event}
use Rattle.wf_model.specs.declared.event.Event.TheVariants.{Start}
use Rattle.wf_model.specs.Faults.{fault_of}
use Rattle.wf_model.specs.Grammar.{Grammar, body_of}
use Rattle.label_model.specs.Files.{Entry, entry_of}
use Rattle.label_model.specs.RunLabels.{labelled_by}
use Rattle.wf_run.specs.Runs.{RunSeen, IsRunOf}
use Rattle.wf_labeller.specs.Entries.{HaveLabelsWithin}
use Rattle.wf_labeller.specs.Groups.{AreLabelsWithin, bits_of_items}
use Rattle.wf_labeller.specs.Keeping.{Adds}

-- the entries of the items that an event makes behind these events
abbrev pub entries_behind : Grammar → List Event → Event → List Entry
entries_behind g events e = map entry_of (labelled_by g (events ++ e ∷ []) e)

-- the bits of the labels of these items
abbrev pub labels_behind : Grammar → List Event → Event → List (List Bool)
labels_behind g events e = bits_of_items (labelled_by g (events ++ e ∷ []) e)

-- behind what was kept come the parts of the entries of the items that an event makes
abbrev pub AddsEntries : {P : Type 0} → (Entry → List P) → List P → List P → RunSeen → Event → Type 0
AddsEntries parts_of old new r e = (events : List Event) → IsRunOf r events → Adds parts_of old new (entries_behind r.grammar.core events e)

-- so if the run takes the event
abbrev pub AddsEntriesOfTaken : {P : Type 0} → (Entry → List P) → List P → List P → RunSeen → Event → Type 0
AddsEntriesOfTaken parts_of old new r e =
    (events : List Event) → IsRunOf r events → fault_of r.grammar.core r.most events e ≡ None → Adds parts_of old new (entries_behind r.grammar.core events e)

-- behind labels come those of the items that an event makes
abbrev pub AddsLabels : List (List Bool) → List (List Bool) → RunSeen → Event → Type 0
AddsLabels old new r e = (events : List Event) → IsRunOf r events → new ≡ old ++ labels_behind r.grammar.core events e

-- these are the labels of the items that an event makes, if the run takes it
abbrev pub AreLabelsOfTaken : List (List Bool) → RunSeen → Event → Type 0
AreLabelsOfTaken labels r e = (events : List Event) → IsRunOf r events → fault_of r.grammar.core r.most events e ≡ None → labels ≡ labels_behind r.grammar.core events e

-- the labels of the items that an event made of the first run are within the bound that the second one counts
abbrev pub AreBounded : RunSeen → RunSeen → Event → Type 0
AreBounded old new e = (events : List Event) → IsRunOf old events → AreLabelsWithin new.grammar.core (events ++ e ∷ []) e new.expands

-- so are those of these entries
abbrev pub AreEntriesBounded : RunSeen → RunSeen → Event → List Entry → Type 0
AreEntriesBounded old new e entries = (events : List Event) → IsRunOf old events → HaveLabelsWithin new.grammar.core (events ++ e ∷ []) e new.expands entries

-- behind what was kept come the parts of the entries of the items that the start of a run makes, whatever its events were, if the name is short enough
abbrev pub AddsRootEntries : {P : Type 0} → (Entry → List P) → List P → List P → Grammar → List ℕ → Type 0
AddsRootEntries parts_of old new g root = length root ≤ 64 → (events : List Event) → Adds parts_of old new (map entry_of (labelled_by g events (Start root)))

-- this is the number of a production that is there, with a position for each of these names
abbrev pub IsNumberOf : Grammar → ℕ → List (List ℕ) → ℕ → Type 0
IsNumberOf g production names p = (p ≡ production) × (production < length g.productions) × (length names ≡ length (body_of g production))
