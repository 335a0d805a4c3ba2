-- The law of the length of addresses.
use Rattle.std.specs.Prelude.{◌<◌, ◌≢◌, ℕ, List, [], length}
use Rattle.wf_model.specs.Grammar.{Grammar}
use Rattle.wf_model.specs.declared.event.Event.{Event}
use Rattle.wf_model.specs.Run.{IsRun, root_of}
use Rattle.wf_model.specs.Reach.{Step}
use Rattle.wf_model.specs.Routes.{IsAddress}

-- an address has at most as many steps as the run has expand events: each of its instances is expanded by an event of its own, and the start event is one more
abbrev pub DepthLaw : Type 0
DepthLaw =
    (g : Grammar) (m : ℕ) (events : List Event) → IsRun g m events → events ≢ [] → (a : List Step) (x : List ℕ) → IsAddress events (root_of events) a x → length a < length events
