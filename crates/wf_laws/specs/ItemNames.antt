-- The law of the names of items.
use Rattle.std.specs.Prelude.{◌≡◌, ℕ, List}
use Rattle.wf_model.specs.Lists.{IsIn}
use Rattle.wf_model.specs.Grammar.{Grammar}
use Rattle.wf_model.specs.WellFormed.{IsWellFormed}
use Rattle.wf_model.specs.declared.event.Event.{Event}
use Rattle.wf_model.specs.Run.{IsRun}
use Rattle.wf_model.specs.Items.{Item, items}

-- two items of a run with one name are one item
abbrev pub ItemNamesLaw : Type 0
ItemNamesLaw =
    (g : Grammar) (m : ℕ) (events : List Event) → IsWellFormed g → IsRun g m events → (s t : Item) → IsIn s (items g m events) → IsIn t (items g m events) → s.name ≡ t.name → s ≡ t
