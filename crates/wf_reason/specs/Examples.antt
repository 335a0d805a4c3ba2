-- What is said of worked lines, in the run of the line grammar.
use Rattle.std.specs.Prelude.{ℕ, suc, List, [], ◌∷◌, codes}
use Rattle.wf_laws.specs.LineGrammar.{line, all_pairs, whole_view, events}
use Rattle.wf_reason.specs.ChainLines.{ChainLine, ItemLine, ViaLine}
use Rattle.wf_reason.specs.HandedIn.{HandedLine}
use Rattle.wf_reason.specs.Checked.{IsCheckedText}

-- the lines of a file with these lines and no others, the first of which has this number
abbrev pub numbered : ℕ → List ChainLine → List HandedLine
numbered n [] = []
numbered n (l ∷ ls) = record { number = n; says = l } ∷ numbered (suc n) ls

-- from r.a by this instance to i1.y, and by i2 to r.b
abbrev pub through_first : List ℕ → List ChainLine
through_first via = ItemLine (codes "r.a") ∷ ViaLine via ∷ ItemLine (codes "i1.y") ∷ ViaLine (codes "i2") ∷ ItemLine (codes "r.b") ∷ []

-- what is said of these lines is this text
abbrev pub Gives : List ChainLine → List ℕ → Type 0
Gives lines text = IsCheckedText line whole_view all_pairs 0 events (numbered 1 lines) text

pub record LinesAreWorked : Type 0 where
  pub of_chain : Gives (through_first (codes "i1")) (codes "yes\n")
  -- i2 does not consume r.a
  pub wrong_via : Gives (through_first (codes "i2")) (codes "no 2\n")
  -- there is no instance i3
  pub unknown_via : Gives (through_first (codes "i3")) (codes "no 2\n")
  -- i1 consumes r.a, and does not lead on to r.b
  pub wrong_item : Gives (ItemLine (codes "r.a") ∷ ViaLine (codes "i1") ∷ ItemLine (codes "r.b") ∷ []) (codes "no 3\n")
  -- there is no item r.c
  pub unknown_item : Gives (ItemLine (codes "r.c") ∷ []) (codes "no 1\n")
  -- all lines are right, and a chain goes on
  pub first_alone : Gives (ItemLine (codes "r.a") ∷ []) (codes "no 2\n")
  pub via_last : Gives (ItemLine (codes "r.a") ∷ ViaLine (codes "i1") ∷ []) (codes "no 3\n")
  pub no_lines : Gives [] (codes "no 1\n")
