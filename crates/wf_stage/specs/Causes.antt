-- What must be so for an end, by the counts of faults of the shelf and of out before and after.
use Rattle.std.specs.Prelude.{◌≡◌, ℕ, Bool}
use Rattle.wf_io.specs.Told.{Rose}
use Rattle.wf_message.specs.Endings.{End, Done, Usage, Refused, ReadFault, WriteFault, NoMemory}

-- A fault of reading comes only where the shelf's count rose, a fault of writing only where that of out rose. Each count that did not bring the end is as it was
abbrev pub IsCause : ℕ → ℕ → Bool → ℕ → ℕ → Bool → End → Type 0
IsCause before after last out_before out_after out_last Done = (after ≡ before) × (out_after ≡ out_before)
IsCause before after last out_before out_after out_last Usage = ⊥
IsCause before after last out_before out_after out_last (Refused word line fault) = (after ≡ before) × (out_after ≡ out_before)
IsCause before after last out_before out_after out_last (ReadFault word) = Rose before after last × (out_after ≡ out_before)
IsCause before after last out_before out_after out_last WriteFault = (after ≡ before) × Rose out_before out_after out_last
IsCause before after last out_before out_after out_last NoMemory = (after ≡ before) × (out_after ≡ out_before)

-- so of a step that reads and does not write, and ends the program
abbrev pub IsReadingCause : ℕ → ℕ → Bool → End → Type 0
IsReadingCause before after last Done = ⊥
IsReadingCause before after last Usage = ⊥
IsReadingCause before after last (Refused word line fault) = after ≡ before
IsReadingCause before after last (ReadFault word) = Rose before after last
IsReadingCause before after last WriteFault = ⊥
IsReadingCause before after last NoMemory = after ≡ before

-- so of a step that writes and does not read
abbrev pub IsWritingCause : ℕ → ℕ → Bool → End → Type 0
IsWritingCause before after last Done = after ≡ before
IsWritingCause before after last Usage = ⊥
IsWritingCause before after last (Refused word line fault) = after ≡ before
IsWritingCause before after last (ReadFault word) = ⊥
IsWritingCause before after last WriteFault = Rose before after last
IsWritingCause before after last NoMemory = after ≡ before
