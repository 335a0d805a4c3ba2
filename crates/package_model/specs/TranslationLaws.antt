-- Laws of labels that are read over a package.
use Rattle.std.specs.Prelude.{◌≡◌, ◌↔◌, ℕ, Bool, List}
use Rattle.wf_model.specs.Grammar.{Grammar}
use Rattle.wf_model.specs.WellFormed.{IsWellFormed}
use Rattle.wf_model.specs.Proper.{IsProper}
use Rattle.wf_model.specs.Linear.{IsLinear}
use Rattle.wf_model.specs.View.{View}
use Rattle.wf_model.specs.Safe.{IsSafe}
use Rattle.wf_model.specs.Finishing.{ExpandsComposites}
use Rattle.wf_model.specs.Reach.{Step}
use Rattle.bit_pack.specs.Bits.{Holds}
use Rattle.label_model.specs.Labels.{Label, Input, Output, OfEdge, label_bits, IsLabel}
use Rattle.verdict_model.specs.declared.verdict.Verdict.{Verdict}
use Rattle.verdict_model.specs.Telling.{Tells}
use Rattle.verdict_model.specs.Verdicts.{IsHidden, IsVerdict}
use Rattle.version_model.specs.Standing.{renumbered}
use Rattle.package_model.specs.Shown.{AreSeen, place_in, shown_of}
use Rattle.package_model.specs.Packages.{LoopEntry, loop_of}
use Rattle.package_model.specs.Loops.{AreLoopsOf, AreGoodLoops}
use Rattle.package_model.specs.Translating.{Loops, Translation, Inside, Outside, IsTranslation, TranslatesTo}
use Rattle.package_model.specs.Consulting.{IsConsulted}
use Rattle.package_model.specs.Laws.{packaged}

-- over a package with good loops, bits have one translation at most
abbrev pub OneTranslationLaw : Type 0
OneTranslationLaw =
    (g : Grammar) (entries : List LoopEntry) (loop : Loops) → AreGoodLoops g entries → AreLoopsOf g entries loop →
    (bits : List Bool) (t v : Translation) → IsTranslation g loop bits t → IsTranslation g loop bits v → t ≡ v

-- and one that is inside is a label of the package's grammar, whatever the bits are
abbrev pub InsideLabelLaw : Type 0
InsideLabelLaw =
    (g : Grammar) (entries : List LoopEntry) (loop : Loops) → IsWellFormed g → IsLinear g → AreGoodLoops g entries → AreLoopsOf g entries loop →
    (bits : List Bool) (l : Label) → IsTranslation g loop bits (Inside l) → IsLabel g l

-- the label k of the package's grammar tells what the label l of the grammar tells, by place: the same port of the root, or the same edge of the same instance
abbrev pub TellsByPlace : Grammar → View → List ℕ → List ℕ → Label → Label → Type 0
TellsByPlace g u ms ps (Input p) k = k ≡ Input p
TellsByPlace g u ms ps (Output p) k = k ≡ Output p
TellsByPlace g u ms ps (OfEdge q) k = (a : List Step) × (p : ℕ) × (e : ℕ) × Tells g (OfEdge q) a p e × Tells (packaged g u ms ps) k (renumbered (place_in ps) a) (place_in ps p) e

-- Each label of the grammar, in bytes, is outside over the package of a view exactly if it is hidden under the view, and otherwise inside, as the label of the package's grammar that tells the same by place
abbrev pub TranslationLaw : Type 0
TranslationLaw =
    (g : Grammar) (u : View) (ms ps : List ℕ) → IsWellFormed g → IsLinear g → ExpandsComposites g u → AreSeen g u ms ps →
    (l : Label) (bytes : List ℕ) → IsLabel g l → Holds bytes (label_bits l) →
    record {
      outside : TranslatesTo (packaged g u ms ps) (loop_of (shown_of g u ms ps)) bytes Outside ↔ IsHidden g u l;
      inside : (IsHidden g u l → ⊥) → (k : Label) × TellsByPlace g u ms ps l k × IsLabel (packaged g u ms ps) k × TranslatesTo (packaged g u ms ps) (loop_of (shown_of g u ms ps)) bytes (Inside k);
    }

-- so two labels of the grammar have by the package of a safe view the verdict that they have under the view
abbrev pub ConsultLaw : Type 0
ConsultLaw =
    (g : Grammar) (u : View) (ms ps : List ℕ) → IsWellFormed g → IsProper g → IsLinear g → ExpandsComposites g u → IsSafe g u → AreSeen g u ms ps →
    (x y : Label) (first second : List ℕ) → IsLabel g x → IsLabel g y → Holds first (label_bits x) → Holds second (label_bits y) →
    (v : Verdict) → IsConsulted (packaged g u ms ps) (loop_of (shown_of g u ms ps)) first second v ↔ IsVerdict g u x y v
