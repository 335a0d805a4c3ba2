-- How a version that changes a cycle is told.
use Rattle.std.specs.Prelude.{ℕ, List, ◌++◌, codes, decimal}
use Rattle.wf_model.specs.Grammar.{Grammar}
use Rattle.grammar_text.specs.Names.{name_of}
use Rattle.wf_version.specs.declared.fault.VersionFault.{VersionFault}
use Rattle.wf_version.specs.declared.fault.VersionFault.TheVariants.{CycleChanged, NoMemory}

-- why a version of a strictly linear grammar is not taken: the name of the fault, the number of the version in its list, and the name of the module
abbrev pub version_text : Grammar → ℕ → VersionFault → List ℕ
version_text g n (CycleChanged m) = (codes "CycleChanged version " ++ decimal n) ++ (codes " module " ++ name_of g m.0)
version_text g n NoMemory = codes "NoMemory"
