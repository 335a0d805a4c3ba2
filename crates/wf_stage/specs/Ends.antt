-- How a call ended and what out got, beside what the files leave.
use Rattle.std.specs.Prelude.{◌≡◌, ◌≢◌, ◌<◌, ℕ, List, ◌++◌, length, take, Option}
use Rattle.wf_io.specs.Told.{Appended}
use Rattle.wf_message.specs.Endings.{End, Done, WriteFault, NoMemory}

-- the end is neither want of memory nor a fault of writing
abbrev pub IsOfOutcome : End → Type 0
IsOfOutcome ending = (ending ≢ WriteFault) × (ending ≢ NoMemory)

-- How a call ended, and what out got in it, stands to a relation between ends and texts, where this text was put before.
-- But for a fault of writing and want of memory, the end is related to the first text with what out got behind it. Whatever the end is, each text that is related begins with the first one, and out got a beginning of what follows it. Writing fails only where something follows it
pub record EndsBehind (first : List ℕ) (Outcome : End → List ℕ → Type 0) (ending : End) (old new : Option (List ℕ)) : Type 0 where
  pub whole : IsOfOutcome ending → (rest : List ℕ) × Outcome ending (first ++ rest) × Appended rest old new
  pub begun : (e : End) (text : List ℕ) → Outcome e text → (rest : List ℕ) × (text ≡ first ++ rest) × ((k : ℕ) × Appended (take k rest) old new)
  pub due : ending ≡ WriteFault → (e : End) (text : List ℕ) → Outcome e text → length first < length text

-- one text is written, and that is all
abbrev pub IsWritten : List ℕ → End → List ℕ → Type 0
IsWritten written ending text = (ending ≡ Done) × (text ≡ written)
