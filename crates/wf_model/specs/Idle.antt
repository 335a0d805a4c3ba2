-- Events that change nothing that a view shows of a run.
use Rattle.std.specs.Prelude.{◌≡◌, ℕ, false, ◌↔◌, List}
use Rattle.wf_model.specs.Lists.{IsIn}
use Rattle.wf_model.specs.Grammar.{Grammar, Assignment}
use Rattle.wf_model.specs.View.{View, expands}
use Rattle.wf_model.specs.declared.event.Event.{Event}
use Rattle.wf_model.specs.Run.{Instance, seen_in, IsPending}
use Rattle.wf_model.specs.Links.{links_with}
use Rattle.wf_model.specs.Items.{Item, items, IsVisible}

-- the instance i is not seen, or the view does not expand its module
abbrev pub IsIdle : Grammar → View → ℕ → List Event → List ℕ → Type 0
IsIdle g u m events i = (j : Instance) → IsIn j (seen_in g u m events) → j.name ≡ i → expands u j.module_no ≡ false

-- two lists of events show the same: the same seen instances and links, each in the same order, the same visible items, and the same pending instances
pub record ShowsTheSame (g : Grammar) (u : View) (m : ℕ) (events after : List Event) : Type 0 where
  pub seen : seen_in g u m after ≡ seen_in g u m events
  pub links : (leaf : Assignment) → links_with g u leaf m after ≡ links_with g u leaf m events
  pub items : (t : Item) → (IsIn t (items g m after) × IsVisible g u m after t) ↔ (IsIn t (items g m events) × IsVisible g u m events t)
  pub pending : (i : Instance) → IsPending g u m after i ↔ IsPending g u m events i
