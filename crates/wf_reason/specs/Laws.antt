-- Laws of what is said of a chain that was handed in.
use Rattle.std.specs.Prelude.{◌≡◌, ◌↔◌, ℕ, ◌≤◌, false, List, length}
use Rattle.wf_model.specs.Grammar.{Grammar, Assignment}
use Rattle.wf_model.specs.WellFormed.{IsWellFormed}
use Rattle.wf_model.specs.View.{View}
use Rattle.wf_model.specs.declared.event.Event.{Event}
use Rattle.wf_model.specs.Run.{IsRun, IsAccepted}
use Rattle.wf_model.specs.Items.{Item}
use Rattle.wf_io.specs.Told.{File}
use Rattle.wf_io.specs.Lines.{lines_in}
use Rattle.chain_model.specs.Chains.{ChainStep, IsItemChain}
use Rattle.chain_model.specs.ChainText.{chain_text}
use Rattle.wf_reason.specs.ChainLines.{lines_of}
use Rattle.wf_reason.specs.HandedIn.{HandedLine, said, TellsLines}
use Rattle.wf_reason.specs.Right.{AreOfChain}
use Rattle.wf_reason.specs.Checked.{IsCheckedText, yes_line}

-- of lines one text is said
pub record HasOneText (g : Grammar) (u : View) (d : Assignment) (events : List Event) (lines : List HandedLine) : Type 0 where
  pub text : List ℕ
  pub is : IsCheckedText g u d g.start events lines text
  pub one : (other : List ℕ) → IsCheckedText g u d g.start events lines other → other ≡ text

-- so it is for all lines, and a run of a well-formed grammar
abbrev pub OneTextLaw : Type 0
OneTextLaw =
    (g : Grammar) (u : View) (d : Assignment) → IsWellFormed g → (events : List Event) → IsRun g g.start events → (lines : List HandedLine) →
    HasOneText g u d events lines

-- `yes` is said exactly where the lines are those of a chain
abbrev pub YesLaw : Type 0
YesLaw =
    (g : Grammar) (u : View) (d : Assignment) (m : ℕ) (events : List Event) (lines : List HandedLine) →
    IsCheckedText g u d m events lines yes_line ↔ AreOfChain g u d m events (said lines)

-- a whole file with the text of a chain has the lines of this chain, if it is not too long
abbrev pub ChainFileLaw : Type 0
ChainFileLaw =
    (g : Grammar) (u : View) (d : Assignment) (limit : ℕ) → IsWellFormed g → (events : List Event) → IsAccepted g limit events → (x y : Item) (steps : List ChainStep) →
    IsItemChain g u d g.start events x steps y → (file : File) → file.broken ≡ false → file.bytes ≡ chain_text x steps → length file.bytes ≤ 1073741824 →
    (lines : List HandedLine) × TellsLines (lines_in file) lines × (said lines ≡ lines_of x steps)
