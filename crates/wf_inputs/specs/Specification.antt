-- What the bytes of a specification tell: a grammar, or why they are refused.
use Rattle.std.specs.Prelude.{◌≡◌, ◌⊎◌, ℕ, List, Ok, Err, codes}
use Rattle.serde_json.specs.Data.{Data}
use Rattle.wf_model.specs.declared.parts.Parts.{Parts}
use Rattle.wf_model.specs.Proper.{IsProper}
use Rattle.wf_model.specs.Linear.{IsLinear}
use Rattle.wf_spec.specs.Held.{HeldGrammar}
use Rattle.wf_json.specs.declared.fault.Member.{Member}
use Rattle.wf_json.specs.Reading.{IsReading, HasNoReading}
use Rattle.wf_json.specs.SpecForm.{spec_of}
use Rattle.wf_form.specs.declared.fault.FormFault.{FormFault}
use Rattle.wf_form.specs.Forming.{grammar_of, held_of, IsFormed, HaveVersions}
use Rattle.wf_form.specs.Rules.{IsFaultOf as IsFaultOfParts}
use Rattle.wf_check.specs.declared.fault.CheckFault.{CheckFault}
use Rattle.wf_check.specs.Improper.{IsFaultOf as IsFaultOfGrammar}
use Rattle.wf_recur.specs.declared.fault.RecurFault.{RecurFault}
use Rattle.wf_recur.specs.Loops.{IsFaultOf as HasTwoLoops}
use Rattle.wf_version.specs.declared.fault.VersionFault.{VersionFault}
pub use Rattle.wf_accept.specs.Accepted.{KeepsItsCycles, AllKeepCycles}
pub use Rattle.wf_accept.specs.Faults.{IsFirstChanged}
use Rattle.wf_check.specs.FaultText.{check_text}
use Rattle.wf_recur.specs.FaultText.{recur_text}
use Rattle.wf_version.specs.FaultText.{version_text}
use Rattle.wf_json.specs.FaultText.{shape_text}
use Rattle.wf_form.specs.FaultText.{form_text}

-- the bytes are a specification in JSON
abbrev pub IsSpecText : List ℕ → Parts → Type 0
IsSpecText bytes parts = (d : Data) × IsReading bytes d × (spec_of d ≡ Ok parts)

-- the bytes are the specification of this grammar
pub record TellsGrammar (bytes : List ℕ) (h : HeldGrammar) : Type 0 where
  pub parts : Parts
  pub read : IsSpecText bytes parts
  pub formed : IsFormed parts
  pub versions : HaveVersions parts
  pub proper : IsProper (grammar_of parts)
  pub linear : IsLinear (grammar_of parts)
  pub keeps : AllKeepCycles (held_of parts)
  pub is : h ≡ held_of parts

-- why a strictly linear grammar is refused: one of its versions does not keep its cycles
abbrev pub RefusesVersions : HeldGrammar → List ℕ → Type 0
RefusesVersions h fault = (n : ℕ) × (f : VersionFault) × IsFirstChanged h n f × (fault ≡ version_text h.core n f)

-- why a proper grammar is refused: it is not strictly linear; or it is, and one of its versions is refused
abbrev pub RefusesLoops : HeldGrammar → List ℕ → Type 0
RefusesLoops h fault =
    ((f : RecurFault) × HasTwoLoops h.core f × (fault ≡ recur_text h.core f)) ⊎
    (IsLinear h.core × RefusesVersions h fault)

-- why a well-formed grammar is refused: it is not proper; or it is, and is refused for its loops or its versions
abbrev pub RefusesGrammar : HeldGrammar → List ℕ → Type 0
RefusesGrammar h fault =
    ((f : CheckFault) × IsFaultOfGrammar h.core f × (fault ≡ check_text h.core f)) ⊎
    (IsProper h.core × RefusesLoops h fault)

-- why parts are refused: they break a rule; or their grammar is refused
abbrev pub RefusesParts : Parts → List ℕ → Type 0
RefusesParts parts fault =
    ((f : FormFault) × IsFaultOfParts parts f × (fault ≡ form_text f)) ⊎
    (IsFormed parts × HaveVersions parts × RefusesGrammar (held_of parts) fault)

-- why a value is refused: a member has not its form; or the parts that it says are refused
abbrev pub RefusesData : Data → List ℕ → Type 0
RefusesData d fault =
    ((m : Member) × (spec_of d ≡ Err m) × (fault ≡ shape_text m)) ⊎
    ((parts : Parts) × (spec_of d ≡ Ok parts) × RefusesParts parts fault)

-- why bytes are refused: they have no reading; or the value that they read as is refused
abbrev pub RefusesSpec : List ℕ → List ℕ → Type 0
RefusesSpec bytes fault =
    (HasNoReading bytes × (fault ≡ codes "NotJson")) ⊎
    ((d : Data) × IsReading bytes d × RefusesData d fault)
