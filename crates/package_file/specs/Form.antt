-- The form of a package: a JSON object that says the parts of a grammar, and the entries of its loops.
use Rattle.std.specs.Prelude.{◌≡◌, ℕ, List, [], Option, Some, option_map, codes}
use Rattle.serde_json.specs.Data.{Data}
use Rattle.wf_model.specs.declared.parts.Parts.{Parts}
use Rattle.wf_json.specs.Reading.{IsReading}
use Rattle.wf_json.specs.Forms.{text_form, whole_form, list_form, triple_form, member_form}
use Rattle.wf_json.specs.SpecForm.{module_form, production_form, deps_form}
use Rattle.package_file.specs.declared.parts.LoopPart.{LoopPart}
use Rattle.package_file.specs.declared.parts.PackageParts.{PackageParts}

-- `[module, production, position]`
abbrev pub loop_form : Data → Option LoopPart
loop_form d = option_map (λ t. record { «module» = t.0; production = t.1.0; position = t.1.1 }) (triple_form text_form whole_form whole_form d)

-- The value has the members `start`, `modules`, `productions` and `deps`, each with its form, and these are the parts that they say. A member `versions` is ignored, as are further members
pub record SaysGrammar (d : Data) (parts : Parts) : Type 0 where
  pub start : member_form (codes "start") text_form d ≡ Some parts.start
  pub modules : member_form (codes "modules") (list_form module_form) d ≡ Some parts.modules
  pub productions : member_form (codes "productions") (list_form production_form) d ≡ Some parts.productions
  pub deps : member_form (codes "deps") (list_form deps_form) d ≡ Some parts.deps
  pub versions : parts.versions ≡ []

-- the value has a member `package`, which is the whole number 1
abbrev pub IsNumberedOne : Data → Type 0
IsNumberedOne d = member_form (codes "package") whole_form d ≡ Some 1

-- The value has the members `package`, which is the whole number 1, `start`, `modules`, `productions`, `deps` and `loops`, each with its form, and these are the parts that they say
pub record SaysPackage (d : Data) (x : PackageParts) : Type 0 where
  pub numbered : IsNumberedOne d
  pub grammar : SaysGrammar d x.grammar
  pub loops : member_form (codes "loops") (list_form loop_form) d ≡ Some x.loops

-- the bytes are a JSON text, and its value says the parts of a package
abbrev pub TellsParts : List ℕ → PackageParts → Type 0
TellsParts bytes x = (d : Data) × IsReading bytes d × SaysPackage d x
