-- Addresses of instances.
use Rattle.std.specs.Prelude.{◌≡◌, ◌≢◌, ℕ, ◌↔◌, List, []}
use Rattle.wf_model.specs.Lists.{IsIn}
use Rattle.wf_model.specs.Grammar.{Grammar}
use Rattle.wf_model.specs.View.{View}
use Rattle.wf_model.specs.declared.event.Event.{Event}
use Rattle.wf_model.specs.Run.{Instance, IsRun, seen_in, root_of}
use Rattle.wf_model.specs.Reach.{Step, module_along, IsAlong}

-- An instance is seen exactly if an address leads to it on which each instance passed is open; the address tells its module
abbrev pub SeenLaw : Type 0
SeenLaw =
    (g : Grammar) (u : View) (m : ℕ) (events : List Event) (i : Instance) → IsRun g m events → events ≢ [] →
    IsIn i (seen_in g u m events) ↔ ((a : List Step) × IsAlong g u events (root_of events) a i.name × (module_along g m a ≡ i.module_no))
