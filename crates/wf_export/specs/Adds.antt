-- What of a text is due, or was put.
use Rattle.std.specs.Prelude.{◌≡◌, ◌<◌, ◌≤◌, ℕ, Bool, List, ◌++◌, length, Option, Result, MatchResult}
use Rattle.wf_io.specs.Told.{Rose, Appended}
use Rattle.wf_lines.specs.Taking.{IsDue, IsBegun}
use Rattle.wf_export.specs.declared.fault.ExportFault.{ExportFault}
use Rattle.wf_export.specs.declared.fault.ExportFault.TheVariants.{WriteFault, NoMemory}

-- what must be so at a fault, by the sink's count of faults before and after
abbrev pub IsCauseOf : ℕ → ℕ → Bool → ExportFault → Type 0
IsCauseOf before after at_last WriteFault = Rose before after at_last
IsCauseOf before after at_last NoMemory = after ≡ before

-- a beginning of a text was put, and then came a fault; one of writing, only where the text has a byte
pub record IsStopped (text : List ℕ) (old new : Option (List ℕ)) (before after : ℕ) (at_last : Bool) (f : ExportFault) : Type 0 where
  pub begun : IsBegun text old new
  pub later : before ≤ after
  pub cause : IsCauseOf before after at_last f
  pub some : f ≡ WriteFault → 0 < length text

-- what is due is short, if it was
abbrev pub StaysShort : List ℕ → List ℕ → Type 0
StaysShort due new_due = length due < 65536 → length new_due < 65536

-- A text is due behind what was due before, of which a beginning was put, and what is due stays short; or there was a fault
abbrev pub Adds : {S T : Type 0} → (S → Option (List ℕ)) → (S → ℕ) → (S → Bool) → List ℕ → List ℕ → List ℕ → S → S → Result T ExportFault → Type 0
Adds bytes faults last text due new_due old new result =
    MatchResult result
    (λ _. IsDue (due ++ text) new_due (bytes old) (bytes new) × (faults new ≡ faults old) × StaysShort due new_due)
    (IsStopped (due ++ text) (bytes old) (bytes new) (faults old) (faults new) (last new))

-- a text was put whole, or a beginning of it
abbrev pub Writes : {S T : Type 0} → (S → Option (List ℕ)) → (S → ℕ) → (S → Bool) → List ℕ → S → S → Result T ExportFault → Type 0
Writes bytes faults last text old new result =
    MatchResult result
    (λ _. Appended text (bytes old) (bytes new) × (faults new ≡ faults old))
    (IsStopped text (bytes old) (bytes new) (faults old) (faults new) (last new))
