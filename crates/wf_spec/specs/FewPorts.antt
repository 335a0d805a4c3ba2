-- Modules with few ports.
use Rattle.std.specs.Prelude.{◌≤◌, List, length}
use Rattle.wf_model.specs.Lists.{IsIn}
use Rattle.wf_model.specs.Grammar.{Module}

-- at most 64 ports on each side
pub record HasFewPorts (m : Module) : Type 0 where
  pub inputs : length m.inputs ≤ 64
  pub outputs : length m.outputs ≤ 64

abbrev pub HaveFewPorts : List Module → Type 0
HaveFewPorts modules = (m : Module) → IsIn m modules → HasFewPorts m
