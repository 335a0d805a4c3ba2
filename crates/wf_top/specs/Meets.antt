-- How a call stands to the outcome: what was put, and the line for err.
use Rattle.std.specs.Prelude.{◌≡◌, ◌<◌, ℕ, Bool, List, length, take, Option, Some}
use Rattle.wf_io.specs.Told.{File, Appended}
use Rattle.wf_message.specs.declared.status.Status.{Status}
use Rattle.wf_message.specs.Endings.{End, WriteFault, status_of, line_of}
use Rattle.wf_message.specs.Puts.{IsPut}
use Rattle.wf_stage.specs.Ends.{IsOfOutcome}
use Rattle.wf_top.specs.Outcome.{IsOutcome}

-- How a call ended, and what out got, stands to a relation between ends and texts.
-- But for a fault of writing and want of memory, the end and the text are related. Whatever the end is, out got a beginning of each text that is related. Writing fails only where each of them has a byte
pub record EndsBy (Outcome : End → List ℕ → Type 0) (ending : End) (old new : Option (List ℕ)) : Type 0 where
  pub whole : IsOfOutcome ending → (text : List ℕ) × Outcome ending text × Appended text old new
  pub begun : (e : End) (text : List ℕ) → Outcome e text → (k : ℕ) × Appended (take k text) old new
  pub due : ending ≡ WriteFault → (e : End) (text : List ℕ) → Outcome e text → 0 < length text

-- over a shelf that tells its files, the program ended by its outcome
abbrev pub EndsAsTold : Option (List ℕ → File) → List (List ℕ) → End → Option (List ℕ) → Option (List ℕ) → Type 0
EndsAsTold files words ending old new = (f : List ℕ → File) → files ≡ Some f → EndsBy (IsOutcome f words) ending old new

-- How the program ended: its status and the line on err are those of one end, which over a shelf that tells its files is that of the outcome
pub record HasEnded (files : Option (List ℕ → File)) (words : List (List ℕ)) (status : Status) (out out' err err' : Option (List ℕ)) (before after : ℕ) (at_last : Bool) : Type 0 where
  pub ending : End
  pub status_is : status ≡ status_of ending
  pub line : IsPut (line_of ending) err err' before after at_last
  pub outcome : EndsAsTold files words ending out out'
