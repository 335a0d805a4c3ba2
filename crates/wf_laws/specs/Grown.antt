-- The law of runs that grow: what was there stays as it was.
use Rattle.std.specs.Prelude.{◌≡◌, ◌↔◌, ℕ, List, ◌++◌, Some}
use Rattle.wf_model.specs.Lists.{IsIn}
use Rattle.wf_model.specs.Grammar.{Grammar}
use Rattle.wf_model.specs.View.{View}
use Rattle.wf_model.specs.declared.event.Event.{Event}
use Rattle.wf_model.specs.Run.{Instance, Expanded, IsRun, made, seen_in, expanded_by}
use Rattle.wf_model.specs.Items.{Item, items, IsVisible}

-- after further events each instance and each item is there as before: an instance is seen if it was, and is expanded as it was, and an item is visible if it was
pub record StaysAsItWas (g : Grammar) (u : View) (m : ℕ) (events after : List Event) : Type 0 where
  pub instances : (i : Instance) → IsIn i (made g m events) → IsIn i (made g m after)
  pub seen : (i : Instance) → IsIn i (made g m events) → IsIn i (seen_in g u m after) ↔ IsIn i (seen_in g u m events)
  pub expanded : (n : List ℕ) (x : Expanded) → expanded_by events n ≡ Some x → expanded_by after n ≡ Some x
  pub items_kept : (t : Item) → IsIn t (items g m events) → IsIn t (items g m after)
  pub visible : (t : Item) → IsIn t (items g m events) → IsVisible g u m after t ↔ IsVisible g u m events t

-- so it is in each run that goes on from a run
abbrev pub GrownLaw : Type 0
GrownLaw = (g : Grammar) (u : View) (m : ℕ) (events more : List Event) → IsRun g m (events ++ more) → StaysAsItWas g u m events (events ++ more)
