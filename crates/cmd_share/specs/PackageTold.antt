-- What the bytes of a package tell, or why they are refused.
use Rattle.std.specs.Prelude.{◌≡◌, ℕ, List, [], codes}
use Rattle.wf_model.specs.Grammar.{Grammar}
use Rattle.wf_form.specs.Forming.{grammar_of}
use Rattle.package_model.specs.Loops.{AreLoopsOf}
use Rattle.package_model.specs.Translating.{Loops}
use Rattle.wf_loops.specs.Looped.{LoopedValue, loop_in}
use Rattle.package_file.specs.declared.parts.PackageParts.{PackageParts}
use Rattle.package_file.specs.declared.fault.PackFault.TheVariants.{NotJson, NotPackage, BadPackage}
use Rattle.package_file.specs.Form.{TellsParts}
use Rattle.package_file.specs.Packed.{ArePackage, said_entries, IsFaultOfBytes}
use Rattle.package_file.specs.FaultText.{pack_name}
use Rattle.wf_io.specs.Told.{File}
use Rattle.wf_message.specs.Endings.{End}
use Rattle.wf_stage.specs.Kinds.{Kind}
use Rattle.wf_stage.specs.Stages.{Stage, OfWhole}

-- a package
abbrev pub package_kind : Kind
package_kind = record { word = codes "package"; most = 134217728; long_fault = codes "TooLong" }

-- a package, as answers rest on it: its grammar, and for each module the loop step, if it has one
pub record PackageValue : Type 0 where
  pub grammar : Grammar
  pub loops : Loops

-- the bytes are the text of a package, and this is it
pub record TellsPackage (bytes : List ℕ) (p : PackageValue) : Type 0 where
  pub parts : PackageParts
  pub read : TellsParts bytes parts
  pub good : ArePackage parts
  pub grammar : p.grammar ≡ grammar_of parts.grammar
  pub loops : AreLoopsOf p.grammar (said_entries parts.loops) p.loops

-- a package that is held, as answers rest on it
abbrev pub package_value : LoopedValue → PackageValue
package_value v = record { grammar = v.accepted.grammar.core; loops = loop_in v.steps }

-- why bytes are refused, by the name of what is wrong
pub data RefusesPackage (bytes fault : List ℕ) : Type 0 where
  not_json : IsFaultOfBytes bytes NotJson → fault ≡ pack_name NotJson → RefusesPackage bytes fault
  not_package : IsFaultOfBytes bytes NotPackage → fault ≡ pack_name NotPackage → RefusesPackage bytes fault
  bad_package : IsFaultOfBytes bytes BadPackage → fault ≡ pack_name BadPackage → RefusesPackage bytes fault

-- PACKAGE, as `consult` takes it
abbrev pub PackageStage : File → (PackageValue → End → List ℕ → Type 0) → End → List ℕ → Type 0
PackageStage file = Stage package_kind [] file TellsPackage (OfWhole RefusesPackage)
