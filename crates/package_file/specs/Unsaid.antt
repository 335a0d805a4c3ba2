-- Values that say no package, and the fault of one.
use Rattle.serde_json.specs.Data.{Data}
use Rattle.wf_model.specs.declared.parts.Parts.{Parts}
use Rattle.package_file.specs.declared.parts.PackageParts.{PackageParts}
use Rattle.package_file.specs.declared.fault.PackFault.{PackFault}
use Rattle.package_file.specs.declared.fault.PackFault.TheVariants.{NotJson, NotPackage, BadPackage, NoMemory}
use Rattle.package_file.specs.Form.{SaysGrammar, SaysPackage}

-- the value says the parts of no grammar
abbrev pub SaysNoGrammar : Data → Type 0
SaysNoGrammar d = (parts : Parts) → SaysGrammar d parts → ⊥

-- the value says the parts of no package
abbrev pub SaysNoPackage : Data → Type 0
SaysNoPackage d = (x : PackageParts) → SaysPackage d x → ⊥

-- the fault of a value in which something is wanting: NotPackage; want of memory says nothing
abbrev pub IsUnsaid : Type 0 → PackFault → Type 0
IsUnsaid Wanting NotJson = ⊥
IsUnsaid Wanting NotPackage = Wanting
IsUnsaid Wanting BadPackage = ⊥
IsUnsaid Wanting NoMemory = Unit {0}
