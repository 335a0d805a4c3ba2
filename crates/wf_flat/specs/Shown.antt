-- What of a run is shown.
use Rattle.std.specs.Prelude.{ℕ, Bool, true, false, cond, List, Option, Some, None}
use Rattle.wf_model.specs.declared.event.Event.{Event}
use Rattle.wf_model.specs.Grammar.{Grammar}
use Rattle.wf_model.specs.View.{View}
use Rattle.wf_model.specs.Run.{opens, seen_in}
use Rattle.wf_model.specs.Items.{Item}

-- what contracts see of a run as a view shows it: the marks of the modules that are expanded, the numbers of the instances that are seen, and for each instance whether it is seen and of an expanded module
pub record RunSeen : Type 0 where
  pub marks : List Bool
  pub numbers : List ℕ
  pub opens : List Bool

-- made by an open instance, or a port of the root
abbrev pub is_made_open : Grammar → View → List Event → Option (List ℕ) → Bool
is_made_open g u e None = true
is_made_open g u e (Some i) = opens u (seen_in g u g.start e) i

-- both items are visible in the run e
abbrev pub are_visible : Grammar → View → List Event → Item → Item → Bool
are_visible g u e a b = cond (is_made_open g u e a.maker) (is_made_open g u e b.maker) false
