-- What is said of a chain that was handed in.
use Rattle.std.specs.Prelude.{◌≡◌, ℕ, zero, suc, List, [], ◌∷◌, ◌++◌, codes, decimal}
use Rattle.wf_model.specs.Grammar.{Grammar, Assignment}
use Rattle.wf_model.specs.View.{View}
use Rattle.wf_model.specs.Safe.{IsFull}
use Rattle.wf_model.specs.declared.event.Event.{Event}
use Rattle.wf_message.specs.Endings.{End, Done}
use Rattle.wf_reason.specs.declared.checked.Checked.{Checked}
use Rattle.wf_reason.specs.declared.checked.Checked.TheVariants.{Chain as IsChain, Wrong, Unended}
use Rattle.wf_reason.specs.HandedIn.{HandedLine, said}
use Rattle.wf_reason.specs.Right.{AreOfChain, IsFirstWrong}

-- the number of the line behind k others; where these are all, one more than that of the last, which is this number where there are none
abbrev pub number_behind : ℕ → List HandedLine → ℕ → ℕ
number_behind last [] k = suc last
number_behind last (l ∷ ls) zero = l.number
number_behind last (l ∷ ls) (suc k) = number_behind l.number ls k

-- `yes`, and `no` with the number of a line
abbrev pub yes_line : List ℕ
yes_line = codes "yes\n"

abbrev pub no_line : ℕ → List ℕ
no_line number = codes "no " ++ (decimal number ++ codes "\n")

-- the number of the last line, and of none where there is none
abbrev pub last_of : ℕ → List HandedLine → ℕ
last_of last [] = last
last_of last (l ∷ ls) = last_of l.number ls

-- What is said of lines: that they are a chain; or that they are none, with the number of the first wrong line. If all of them are right but no chain ends with the last, this is the number of the line that would be next
pub data IsCheckedText (g : Grammar) (u : View) (d : Assignment) (m : ℕ) (events : List Event) (lines : List HandedLine) (text : List ℕ) : Type 0 where
  yes : AreOfChain g u d m events (said lines) → text ≡ yes_line → IsCheckedText g u d m events lines text
  no : (k : ℕ) → IsFirstWrong g u d m events (said lines) k → text ≡ no_line (number_behind 0 lines k) → IsCheckedText g u d m events lines text

-- the text of what is said
abbrev pub checked_text : Checked → List ℕ
checked_text IsChain = yes_line
checked_text (Wrong line) = no_line line
checked_text (Unended last) = no_line (suc last)

-- what lines of a file say is checked in a run under a view, whose full assignment is d, and that is all
pub record IsSaidOf (g : Grammar) (u : View) (events : List Event) (lines : List HandedLine) (ending : End) (text : List ℕ) : Type 0 where
  pub done : ending ≡ Done
  pub d : Assignment
  pub full : IsFull g u d
  pub checked : IsCheckedText g u d g.start events lines text
