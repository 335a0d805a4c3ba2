-- What a look-up of a name in a run finds.
use Rattle.std.specs.Prelude.{◌≡◌, ℕ, List, Option, option_map, position, bytes_eq}
use Rattle.wf_model.specs.declared.event.Event.{Event}
use Rattle.wf_model.specs.declared.event.Event.TheVariants.{Start, Expand}
use Rattle.wf_run.specs.declared.node.NodeNo.{NodeNo}
use Rattle.wf_run.specs.Runs.{RunSeen, IsRunOf}

-- a look-up of this name gives this number of an instance, or none, whatever the events of the run were
abbrev pub IsFoundAs : RunSeen → List ℕ → Option NodeNo → Type 0
IsFoundAs r name found = (events : List Event) → IsRunOf r events → option_map (λ (n : NodeNo). n.0) found ≡ position (bytes_eq name) r.names

-- so does a look-up of the instance that an event expands; a start event expands none
abbrev pub IsFoundFor : RunSeen → Event → Option NodeNo → Type 0
IsFoundFor r (Start root) found = Unit {0}
IsFoundFor r (Expand i p names) found = IsFoundAs r i found
