-- Relations between the end of a call and the text that it writes.
use Rattle.std.specs.Prelude.{◌≡◌, ℕ, List}
use Rattle.wf_message.specs.Endings.{End, Done}

-- ends and texts that are the same
abbrev pub AreSame : End → End → List ℕ → List ℕ → Type 0
AreSame d e t s = (d ≡ e) × (t ≡ s)

-- a relation holds of one end and one text at most
abbrev pub HasOneOutcome : (End → List ℕ → Type 0) → Type 0
HasOneOutcome R = (d e : End) (t s : List ℕ) → R d t → R e s → AreSame d e t s

-- a relation holds of some end and some text
abbrev pub HasOutcome : (End → List ℕ → Type 0) → Type 0
HasOutcome R = (e : End) × (t : List ℕ) × R e t

-- a relation holds of no end but that all is done
abbrev pub EndsInDone : (End → List ℕ → Type 0) → Type 0
EndsInDone R = (e : End) (t : List ℕ) → R e t → e ≡ Done
