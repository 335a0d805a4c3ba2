-- Laws of what addresses in one run have in common.
use Rattle.std.specs.Prelude.{◌≢◌, ℕ, List, []}
use Rattle.wf_model.specs.Lists.{IsIn}
use Rattle.wf_model.specs.Grammar.{Grammar}
use Rattle.wf_model.specs.declared.event.Event.{Event}
use Rattle.wf_model.specs.Run.{IsRun, made, root_of}
use Rattle.wf_model.specs.Reach.{Step, module_along}
use Rattle.wf_model.specs.Routes.{IsAddress, IsRoute, Agree}

-- two addresses in one run name one production wherever both leave one instance
abbrev pub AgreeLaw : Type 0
AgreeLaw =
    (events : List Event) (a b : List Step) (x y : List ℕ) → IsAddress events (root_of events) a x → IsAddress events (root_of events) b y → Agree a b

-- an address in a run from a module is a route from the module, and tells the module of the instance
pub record IsRouteTo (g : Grammar) (m : ℕ) (events : List Event) (a : List Step) (x : List ℕ) : Type 0 where
  pub route : IsRoute g m a
  pub stands : IsIn (record { name = x; module_no = module_along g m a }) (made g m events)

-- so it is for each address of a run that has its start event
abbrev pub RouteLaw : Type 0
RouteLaw =
    (g : Grammar) (m : ℕ) (events : List Event) → IsRun g m events → events ≢ [] → (a : List Step) (x : List ℕ) → IsAddress events (root_of events) a x → IsRouteTo g m events a x
