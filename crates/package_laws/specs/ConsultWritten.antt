-- Labels have their verdicts by the package that is read from its text.
use Rattle.std.specs.Prelude.{◌↔◌, ℕ, List}
use Rattle.wf_model.specs.Grammar.{Grammar}
use Rattle.wf_model.specs.WellFormed.{IsWellFormed}
use Rattle.wf_model.specs.Proper.{IsProper}
use Rattle.wf_model.specs.Linear.{IsLinear}
use Rattle.wf_model.specs.View.{View}
use Rattle.wf_model.specs.Safe.{IsSafe}
use Rattle.wf_model.specs.Finishing.{ExpandsComposites}
use Rattle.bit_pack.specs.Bits.{Holds}
use Rattle.label_model.specs.Labels.{Label, label_bits, IsLabel}
use Rattle.verdict_model.specs.declared.verdict.Verdict.{Verdict}
use Rattle.verdict_model.specs.Verdicts.{IsVerdict}
use Rattle.package_model.specs.Consulting.{IsConsulted}
use Rattle.wf_loops.specs.Looped.{LoopedValue, loop_in}
use Rattle.package_file.specs.Packed.{TellsPackage}
use Rattle.wf_package.specs.PackageText.{IsPackageText}

-- two labels of an accepted grammar have by each package that is read from the text of that of a safe view the verdict that they have under the view
abbrev pub ConsultWrittenLaw : Type 0
ConsultWrittenLaw =
    (g : Grammar) (u : View) → IsWellFormed g → IsProper g → IsLinear g → ExpandsComposites g u → IsSafe g u →
    (text : List ℕ) → IsPackageText g u text → (p : LoopedValue) → TellsPackage text p →
    (x y : Label) (first second : List ℕ) → IsLabel g x → IsLabel g y → Holds first (label_bits x) → Holds second (label_bits y) →
    (v : Verdict) → IsConsulted p.accepted.grammar.core (loop_in p.steps) first second v ↔ IsVerdict g u x y v
