-- How the fault of a grammar that is not accepted is told.
use Rattle.std.specs.Prelude.{ℕ, List, codes}
use Rattle.wf_model.specs.Grammar.{Grammar}
use Rattle.wf_check.specs.FaultText.{check_text}
use Rattle.wf_recur.specs.FaultText.{recur_text}
use Rattle.wf_version.specs.FaultText.{version_text}
use Rattle.wf_accept.specs.declared.fault.AcceptFault.{AcceptFault}
use Rattle.wf_accept.specs.declared.fault.AcceptFault.TheVariants.{NotProper, NotLinear, VersionChanged, NoMemory}

-- why a grammar is not accepted
abbrev pub accept_text : Grammar → AcceptFault → List ℕ
accept_text g (NotProper f) = check_text g f
accept_text g (NotLinear f) = recur_text g f
accept_text g (VersionChanged n f) = version_text g n f
accept_text g NoMemory = codes "NoMemory"
