-- What the text of a package is read as: the package of the view that it was written of.
use Rattle.std.specs.Prelude.{◌≡◌, ℕ, List, []}
use Rattle.wf_model.specs.Grammar.{Grammar}
use Rattle.wf_model.specs.WellFormed.{IsWellFormed}
use Rattle.wf_model.specs.Proper.{IsProper}
use Rattle.wf_model.specs.Linear.{IsLinear}
use Rattle.wf_model.specs.View.{View}
use Rattle.wf_model.specs.Safe.{IsSafe}
use Rattle.wf_model.specs.Finishing.{ExpandsComposites}
use Rattle.wf_spec.specs.Held.{HeldGrammar}
use Rattle.wf_form.specs.Forming.{held_of}
use Rattle.package_model.specs.Shown.{AreSeen, Shown, shown_of}
use Rattle.package_model.specs.Packages.{package_of, loops_of, loop_of}
use Rattle.wf_loops.specs.Looped.{LoopedValue, loop_in}
use Rattle.package_file.specs.declared.parts.PackageParts.{PackageParts}
use Rattle.package_file.specs.declared.fault.PackFault.{PackFault}
use Rattle.package_file.specs.declared.fault.PackFault.TheVariants.{NoMemory}
use Rattle.package_file.specs.Form.{TellsParts}
use Rattle.package_file.specs.Packed.{said_entries, ArePackage, TellsPackage, IsFaultOfBytes, IsHeldPackage}
use Rattle.wf_package.specs.PackageText.{IsPackageText}

-- the grammar of the package of what is shown, without earlier versions
abbrev pub held_package_of : Shown → HeldGrammar
held_package_of s = record { core = package_of s; versions = [] }

-- the parts are those of the package of what is shown: they are those of a package, with its grammar and its loops
pub record ArePartsOf (s : Shown) (x : PackageParts) : Type 0 where
  pub good : ArePackage x
  pub grammar : held_of x.grammar ≡ held_package_of s
  pub loops : said_entries x.loops ≡ loops_of s

-- a package is that of what is shown: it has its grammar, and each module has its loop step
pub record IsPackageOf (s : Shown) (v : LoopedValue) : Type 0 where
  pub grammar : v.accepted.grammar ≡ held_package_of s
  pub loops : (m : ℕ) → loop_in v.steps m ≡ loop_of s m

-- The text is read as the package of what is shown, and as no other
pub record IsReadBack (s : Shown) (text : List ℕ) : Type 0 where
  -- it tells a package
  pub told : (v : LoopedValue) × TellsPackage text v × IsHeldPackage v
  -- each package that it tells is that of what is shown
  pub held : (v : LoopedValue) → TellsPackage text v → IsPackageOf s v
  -- so are the parts that it tells
  pub parts : (x : PackageParts) → TellsParts text x → ArePartsOf s x
  -- and it has no fault: a reader that refuses it wants memory
  pub faultless : (f : PackFault) → IsFaultOfBytes text f → f ≡ NoMemory

-- the text of the package of a safe view of an accepted grammar is read as the package of what the view shows
abbrev pub ReadBackLaw : Type 0
ReadBackLaw =
    (g : Grammar) (u : View) (ms ps : List ℕ) → IsWellFormed g → IsProper g → IsLinear g → ExpandsComposites g u → IsSafe g u → AreSeen g u ms ps →
    (text : List ℕ) → IsPackageText g u text → IsReadBack (shown_of g u ms ps) text

-- a package is that of a view of a grammar
abbrev pub IsPackageOfView : Grammar → View → LoopedValue → Type 0
IsPackageOfView g u v = (ms : List ℕ) × (ps : List ℕ) × AreSeen g u ms ps × IsPackageOf (shown_of g u ms ps) v
