-- The first module that gets on a cycle after a version.
use Rattle.std.specs.Prelude.{ℕ, ◌<◌}
use Rattle.wf_model.specs.Grammar.{Grammar}
use Rattle.wf_model.specs.Versions.{GetsOnCycle}
use Rattle.wf_spec.specs.declared.version.Version.{Version}
use Rattle.wf_version.specs.declared.fault.VersionFault.{VersionFault}
use Rattle.wf_version.specs.declared.fault.VersionFault.TheVariants.{CycleChanged, NoMemory}

-- the least module that gets on a cycle
pub record IsFirstChange (g : Grammar) (v : Version) (k : ℕ) : Type 0 where
  pub gets_on : GetsOnCycle g v.modules v.productions k
  pub least : (j : ℕ) → j < k → GetsOnCycle g v.modules v.productions j → ⊥

-- the fault of a version that does not keep its cycles
abbrev pub IsFaultOf : Grammar → Version → VersionFault → Type 0
IsFaultOf g v (CycleChanged m) = IsFirstChange g v m.0
IsFaultOf g v NoMemory = ⊥
