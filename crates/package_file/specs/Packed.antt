-- Packages: which parts are those of one, and what the bytes of a package tell.
use Rattle.std.specs.Prelude.{◌≡◌, ◌↔◌, ℕ, List, [], map, None}
use Rattle.serde_json.specs.Data.{Data}
use Rattle.wf_model.specs.declared.parts.Parts.{Parts}
use Rattle.wf_model.specs.declared.parts.ViewParts.{ViewParts}
use Rattle.wf_model.specs.Grammar.{Grammar}
use Rattle.wf_model.specs.Proper.{IsProper}
use Rattle.wf_model.specs.Linear.{IsLinear}
use Rattle.wf_model.specs.Reach.{Step}
use Rattle.wf_model.specs.View.{View}
use Rattle.wf_model.specs.DefaultView.{default_view}
use Rattle.wf_model.specs.Safe.{IsSafe}
use Rattle.wf_json.specs.Reading.{IsReading, HasNoReading}
use Rattle.wf_form.specs.Forming.{grammar_of, held_of, IsFormed}
use Rattle.label_model.specs.Labels.{Label, IsLabel}
use Rattle.verdict_model.specs.declared.verdict.Verdict.{Verdict}
use Rattle.verdict_model.specs.Verdicts.{IsVerdict}
use Rattle.package_model.specs.Packages.{LoopEntry}
use Rattle.package_model.specs.Loops.{AreLoopsOf, AreGoodLoops}
use Rattle.wf_loops.specs.Looped.{LoopedValue, IsLooped, loop_in}
use Rattle.package_file.specs.declared.parts.LoopPart.{LoopPart}
use Rattle.package_file.specs.declared.parts.PackageParts.{PackageParts}
use Rattle.package_file.specs.declared.fault.PackFault.{PackFault}
use Rattle.package_file.specs.declared.fault.PackFault.TheVariants.{NotJson, NotPackage, BadPackage, NoMemory}
use Rattle.package_file.specs.Form.{SaysPackage, TellsParts}

-- the step of an entry of the loops
abbrev pub said_step : LoopPart → Step
said_step p = record { production = p.production; position = p.position }

-- an entry of the loops: the name of a module, and a step
abbrev pub said_entry : LoopPart → LoopEntry
said_entry p = record { module_name = p.«module»; step = said_step p }

-- the entries of the loops
abbrev pub said_entries : List LoopPart → List LoopEntry
said_entries = map said_entry

-- parts of a grammar form one that is well-formed, proper and strictly linear
pub record FormProper (parts : Parts) : Type 0 where
  pub formed : IsFormed parts
  pub proper : IsProper (grammar_of parts)
  pub linear : IsLinear (grammar_of parts)

-- the default view of a grammar is safe
abbrev pub IsSafeByDefault : Grammar → Type 0
IsSafeByDefault g = IsSafe g (default_view g)

-- the default view of a grammar is safe, and these are good loops of it
abbrev pub IsGoodWith : Grammar → List LoopPart → Type 0
IsGoodWith g loops = IsSafeByDefault g × AreGoodLoops g (said_entries loops)

-- the parts of a view that name no module to be expanded and give no pairs
abbrev pub empty_parts : ViewParts
empty_parts = record { expand = None; deps = [] }

-- The parts are those of a package: the grammar is well-formed, proper and strictly linear, its default view is safe, and the loops are good
pub record ArePackage (x : PackageParts) : Type 0 where
  pub grammar : FormProper x.grammar
  pub safe : IsSafeByDefault (grammar_of x.grammar)
  pub loops : AreGoodLoops (grammar_of x.grammar) (said_entries x.loops)

-- a grammar with loop steps is the one that parts describe, and it has no earlier versions
pub record IsDescribedBy (x : PackageParts) (v : LoopedValue) : Type 0 where
  pub grammar : v.accepted.grammar ≡ held_of x.grammar
  pub loops : AreLoopsOf v.accepted.grammar.core (said_entries x.loops) (loop_in v.steps)

-- two views give all labels of a grammar the same verdicts
abbrev pub GiveSameVerdicts : Grammar → View → View → Type 0
GiveSameVerdicts g u w = (x y : Label) → IsLabel g x → IsLabel g y → (v : Verdict) → IsVerdict g u x y v ↔ IsVerdict g w x y v

-- what always holds of a package: its grammar is accepted and its loops are good, and its default view is safe
pub record IsHeldPackage (v : LoopedValue) : Type 0 where
  pub looped : IsLooped v
  pub safe : IsSafeByDefault v.accepted.grammar.core

-- the bytes are the text of a package, and this is its grammar, with its loop steps
pub record TellsPackage (bytes : List ℕ) (v : LoopedValue) : Type 0 where
  pub parts : PackageParts
  pub read : TellsParts bytes parts
  pub good : ArePackage parts
  pub is : IsDescribedBy parts v

-- What a fault says of the bytes: they are no JSON text; or they are one whose value says no parts of a package; or the parts that it says are not those of a package. Want of memory says nothing
abbrev pub IsFaultOfBytes : List ℕ → PackFault → Type 0
IsFaultOfBytes bytes NotJson = HasNoReading bytes
IsFaultOfBytes bytes NotPackage = (d : Data) × IsReading bytes d × ((x : PackageParts) → SaysPackage d x → ⊥)
IsFaultOfBytes bytes BadPackage = (x : PackageParts) × TellsParts bytes x × (ArePackage x → ⊥)
IsFaultOfBytes bytes NoMemory = Unit {0}

-- the fault of parts of which something is asked: BadPackage where it is not so; want of memory says nothing
abbrev pub IsBadUnless : Type 0 → PackFault → Type 0
IsBadUnless Asked NotJson = ⊥
IsBadUnless Asked NotPackage = ⊥
IsBadUnless Asked BadPackage = Asked → ⊥
IsBadUnless Asked NoMemory = Unit {0}
