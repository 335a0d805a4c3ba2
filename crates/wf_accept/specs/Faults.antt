-- Why a grammar is not accepted.
use Rattle.std.specs.Prelude.{ℕ, ◌<◌}
use Rattle.wf_model.specs.Lists.{IsAt}
use Rattle.wf_model.specs.Proper.{IsProper}
use Rattle.wf_model.specs.Linear.{IsLinear}
use Rattle.wf_spec.specs.declared.version.Version.{Version}
use Rattle.wf_spec.specs.Held.{HeldGrammar}
use Rattle.wf_check.specs.Improper.{IsFaultOf as IsImproper}
use Rattle.wf_recur.specs.Loops.{IsFaultOf as HasTwoLoops}
use Rattle.wf_version.specs.declared.fault.VersionFault.{VersionFault}
use Rattle.wf_version.specs.Keeping.{IsFaultOf as ChangesCycle}
use Rattle.wf_accept.specs.Accepted.{KeepsItsCycles}
use Rattle.wf_accept.specs.declared.fault.AcceptFault.{AcceptFault}
use Rattle.wf_accept.specs.declared.fault.AcceptFault.TheVariants.{NotProper, NotLinear, VersionChanged, NoMemory}

-- the first version that does not keep its cycles, by its number, and its fault
pub record IsFirstChanged (h : HeldGrammar) (n : ℕ) (f : VersionFault) : Type 0 where
  pub version : Version
  pub is_at : IsAt version n h.versions
  pub before : (k : ℕ) → k < n → (v : Version) → IsAt v k h.versions → KeepsItsCycles h.core v
  pub changes : ChangesCycle h.core version f

-- the first fault of a grammar: it is not proper; or it is, and not strictly linear; or it is both, and a version does not keep its cycles
abbrev pub IsFaultOf : HeldGrammar → AcceptFault → Type 0
IsFaultOf h (NotProper f) = IsImproper h.core f
IsFaultOf h (NotLinear f) = IsProper h.core × HasTwoLoops h.core f
IsFaultOf h (VersionChanged n f) = IsProper h.core × IsLinear h.core × IsFirstChanged h n f
IsFaultOf h NoMemory = ⊥
