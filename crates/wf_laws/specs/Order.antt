-- The law of the order of events: runs with the same events in another order have the same instances, links and items.
use Rattle.std.specs.Prelude.{ℕ, ◌↔◌, List}
use Rattle.wf_model.specs.Lists.{IsIn}
use Rattle.wf_model.specs.Grammar.{Grammar, Assignment}
use Rattle.wf_model.specs.View.{View}
use Rattle.wf_model.specs.declared.event.Event.{Event}
use Rattle.wf_model.specs.Run.{Instance, IsRun, made, seen_in, IsPending}
use Rattle.wf_model.specs.Links.{Port, Link, links_with, Path}
use Rattle.wf_model.specs.Items.{Item, items, IsVisible}

-- the same instances, seen ones and pending ones, the same links and paths, and the same items and visible ones, in whatever order
pub record HaveTheSame (g : Grammar) (u : View) (m : ℕ) (a b : List Event) : Type 0 where
  pub instances : (i : Instance) → IsIn i (made g m a) ↔ IsIn i (made g m b)
  pub seen : (i : Instance) → IsIn i (seen_in g u m a) ↔ IsIn i (seen_in g u m b)
  pub pending : (i : Instance) → IsPending g u m a i ↔ IsPending g u m b i
  pub links : (leaf : Assignment) (l : Link (List ℕ)) → IsIn l (links_with g u leaf m a) ↔ IsIn l (links_with g u leaf m b)
  pub paths : (leaf : Assignment) (x y : Port (List ℕ)) → Path (links_with g u leaf m a) x y ↔ Path (links_with g u leaf m b) x y
  pub items : (t : Item) → IsIn t (items g m a) ↔ IsIn t (items g m b)
  pub visible : (t : Item) → IsVisible g u m a t ↔ IsVisible g u m b t

-- two runs with the same events have the same
abbrev pub OrderLaw : Type 0
OrderLaw =
    (g : Grammar) (u : View) (m : ℕ) (a b : List Event) → IsRun g m a → IsRun g m b → ((e : Event) → IsIn e a ↔ IsIn e b) → HaveTheSame g u m a b
