-- What is told of a specification whose first members are read.
use Rattle.std.specs.Prelude.{ℕ, List, codes}
use Rattle.std.specs.declared.result.Result.{Result}
use Rattle.std.specs.declared.result.Result.TheVariants.{Ok}
use Rattle.serde_json.specs.Data.{Data}
use Rattle.wf_model.specs.declared.parts.Parts.{Parts}
use Rattle.wf_model.specs.declared.parts.ModulePart.{ModulePart}
use Rattle.wf_model.specs.declared.parts.ProdPart.{ProdPart}
use Rattle.wf_model.specs.declared.parts.DepsPart.{DepsPart}
use Rattle.wf_json.specs.declared.fault.Member.{Member}
use Rattle.wf_json.specs.declared.fault.Member.TheVariants.{DepsList, Versions}
use Rattle.wf_json.specs.Forms.{list_member}
use Rattle.wf_json.specs.SpecForm.{deps_form, version_form}
use Rattle.wf_json.specs.Telling.{require}

-- the specification of a start module, modules, productions, given pairs and the versions that a value names
abbrev pub spec_from_versions : List ℕ → List ModulePart → List ProdPart → List DepsPart → Data → Result Parts Member
spec_from_versions s ms ps ds d = require Versions (list_member (codes "versions") version_form d) (λ vs. Ok (record { start = s; modules = ms; productions = ps; deps = ds; versions = vs }))

-- the specification of a start module, modules and productions, and the given pairs and the versions that a value names
abbrev pub spec_from_deps : List ℕ → List ModulePart → List ProdPart → Data → Result Parts Member
spec_from_deps s ms ps d = require DepsList (list_member (codes "deps") deps_form d) (λ ds. spec_from_versions s ms ps ds d)
