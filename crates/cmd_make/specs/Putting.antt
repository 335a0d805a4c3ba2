-- Text that is put in large pieces.
use Rattle.std.specs.Prelude.{◌≡◌, ◌<◌, ◌≤◌, ℕ, Bool, List, ◌++◌, length, Option}
use Rattle.wf_lines.specs.Taking.{IsDue, IsBegun}
use Rattle.wf_message.specs.Endings.{End, Done, WriteFault}
use Rattle.wf_stage.specs.Ends.{IsOfOutcome}
use Rattle.wf_stage.specs.Causes.{IsWritingCause}

-- What a step promises that makes a text due behind what is. But for a fault of writing and want of memory, the text is due, except for what was put to make room. Whatever the end is, a beginning was put of what was due with the text behind it, and writing fails only where this has a byte. What is due stays short. The end has its cause, and no count falls
pub record MakesDue {T : Type 0} (bytes : T → Option (List ℕ)) (faults : T → ℕ) (last : T → Bool) (due text due' : List ℕ) (old new : T) (ending : End) : Type 0 where
  pub made : IsOfOutcome ending → (ending ≡ Done) × IsDue (due ++ text) due' (bytes old) (bytes new)
  pub begun : IsBegun (due ++ text) (bytes old) (bytes new)
  pub some : ending ≡ WriteFault → 0 < length (due ++ text)
  pub short : ending ≡ Done → length due < 65536 → length due' < 65536
  pub cause : IsWritingCause (faults old) (faults new) (last new) ending
  pub later : faults old ≤ faults new
