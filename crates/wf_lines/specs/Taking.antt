-- What taking the lines of a file promises.
use Rattle.std.specs.Prelude.{◌≡◌, ◌⊎◌, ◌<◌, ℕ, Bool, true, List, [], ◌∷◌, ◌++◌, length, take, Option, Some, None}
use Rattle.wf_io.specs.Told.{Rose, Appended}
use Rattle.wf_io.specs.Lines.{Line, FileLines, Tail, AtEnd, Broken, LongFile, is_too_long}
use Rattle.wf_io.specs.Readers.{Ends}
use Rattle.wf_io.specs.declared.lines.LineFault.{LineFault}
use Rattle.wf_io.specs.declared.lines.LineFault.TheVariants.{LineTooLong as LineTooLongHeld, FileTooLong as FileTooLongHeld, Fault}
use Rattle.wf_lines.specs.LineStages.{LineEnds}
use Rattle.wf_lines.specs.declared.fault.Halt.{Halt}
use Rattle.wf_lines.specs.declared.fault.Halt.TheVariants.{LineTooLong, FileTooLong, ReadFault, WriteFault}
use Rattle.wf_lines.specs.declared.fault.LinesFault.{LinesFault}
use Rattle.wf_lines.specs.declared.fault.LinesFault.TheVariants.{Stopped, Halted}

-- of a text, a beginning was put, and the rest is due
pub record IsDue (text due : List ℕ) (old new : Option (List ℕ)) : Type 0 where
  pub done : List ℕ
  pub put : Appended done old new
  pub split : text ≡ done ++ due

-- a beginning of the text was put
abbrev pub IsBegun : List ℕ → Option (List ℕ) → Option (List ℕ) → Type 0
IsBegun text old new = (k : ℕ) × Appended (take k text) old new

-- writing a text failed: the text has a byte, and a beginning of it was put
pub record IsCut (text : List ℕ) (old new : Option (List ℕ)) : Type 0 where
  pub some : 0 < length text
  pub begun : IsBegun text old new

-- the halt that a fault of lines is, at the line of a number
abbrev pub halt_at : ℕ → LineFault → Halt
halt_at line LineTooLongHeld = LineTooLong line
halt_at line FileTooLongHeld = FileTooLong line
halt_at line Fault = ReadFault

-- the end at which lines halt. A fault of writing is none: it says nothing of the lines
abbrev pub halt_end : {E : Type 0} → LineEnds E → Halt → Option E
halt_end ends (LineTooLong n) = Some (ends.too_long n)
halt_end ends (FileTooLong n) = Some (ends.long_file n)
halt_end ends ReadFault = Some ends.broken
halt_end ends WriteFault = None

-- the end that a fault is, where it is one: want of memory is none
abbrev pub end_at : {F E : Type 0} → LineEnds E → (F → Option E) → LinesFault F → Option E
end_at ends end_of (Stopped f) = end_of f
end_at ends end_of (Halted h) = halt_end ends h

-- why what is left of a file halts whatever takes it
abbrev pub Halts : FileLines → Halt → Type 0
Halts left (LineTooLong n) = (first : Line) × (later : List Line) × (left.lines ≡ first ∷ later) × (is_too_long first.raw ≡ true) × (n ≡ first.number)
Halts left (FileTooLong n) = Ends left (LongFile n)
Halts left ReadFault = Ends left Broken
Halts left WriteFault = Unit {0}

-- what was put where lines halted: all that was due, or a beginning of it where writing failed
abbrev pub IsPutAt : Halt → List ℕ → Option (List ℕ) → Option (List ℕ) → Type 0
IsPutAt (LineTooLong n) due old new = Appended due old new
IsPutAt (FileTooLong n) due old new = Appended due old new
IsPutAt ReadFault due old new = Appended due old new
IsPutAt WriteFault due old new = IsCut due old new

-- what must be so where lines halted, by the counts of faults of the shelf and of out before and after
abbrev pub IsCauseOfHalt : ℕ → ℕ → Bool → ℕ → ℕ → Bool → Halt → Type 0
IsCauseOfHalt before after last out_before out_after out_last (LineTooLong n) = (after ≡ before) × (out_after ≡ out_before)
IsCauseOfHalt before after last out_before out_after out_last (FileTooLong n) = (after ≡ before) × (out_after ≡ out_before)
IsCauseOfHalt before after last out_before out_after out_last ReadFault = Rose before after last × (out_after ≡ out_before)
IsCauseOfHalt before after last out_before out_after out_last WriteFault = (after ≡ before) × Rose out_before out_after out_last

abbrev pub IsCauseOf : {F : Type 0} → ℕ → ℕ → Bool → ℕ → ℕ → Bool → LinesFault F → Type 0
IsCauseOf before after last out_before out_after out_last (Stopped f) = (after ≡ before) × (out_after ≡ out_before)
IsCauseOf before after last out_before out_after out_last (Halted h) = IsCauseOfHalt before after last out_before out_after out_last h

-- so where nothing is read: a halt is a fault of writing
abbrev pub IsWritingCauseOf : {F : Type 0} → ℕ → ℕ → Bool → LinesFault F → Type 0
IsWritingCauseOf before after last (Stopped f) = after ≡ before
IsWritingCauseOf before after last (Halted h) = (h ≡ WriteFault) × Rose before after last

-- what a line made where it was not taken, and what of this was put, behind what is due: the rest of the text with which it stopped what takes it, where that is told; where memory is wanting, a piece that begins whatever it makes; and a beginning of either where writing failed
abbrev pub IsStoppedBy : {E F : Type 0} → (E → List ℕ → Type 0) → (List ℕ → Type 0) → (F → Option E) → List ℕ → LinesFault F → Option (List ℕ) → Option (List ℕ) → Type 0
IsStoppedBy Stops Begins end_of due (Stopped f) old new =
    (piece : List ℕ) × ((e : _) → end_of f ≡ Some e → Stops e piece) × (end_of f ≡ None → Begins piece) × Appended (due ++ piece) old new
IsStoppedBy Stops Begins end_of due (Halted h) old new =
    (h ≡ WriteFault) × ((piece : List ℕ) × (((e : _) × Stops e piece) ⊎ Begins piece) × IsCut (due ++ piece) old new)

-- so where the end of a whole file stopped what takes it
abbrev pub IsStoppedAtEnd : {S E F : Type 0} → (S → List ℕ → Type 0) → (S → E → List ℕ → Type 0) → (F → Option E) → S → List ℕ → LinesFault F → Option (List ℕ) → Option (List ℕ) → Type 0
IsStoppedAtEnd Finishes StopsAtEnd end_of s due (Stopped f) old new =
    (last : List ℕ) × ((e : _) → end_of f ≡ Some e → StopsAtEnd s e last) × (end_of f ≡ None → last ≡ []) × Appended (due ++ last) old new
IsStoppedAtEnd Finishes StopsAtEnd end_of s due (Halted h) old new =
    (h ≡ WriteFault) × ((last : List ℕ) × (Finishes s last ⊎ (((e : _) × StopsAtEnd s e last) ⊎ (last ≡ []))) × IsCut (due ++ last) old new)

-- what stopped the lines is such a fault of what takes them
abbrev pub IsStoppedAs : {F : Type 0} → (F → Type 0) → LinesFault F → Type 0
IsStoppedAs IsFault (Stopped f) = IsFault f
IsStoppedAs IsFault (Halted h) = Unit {0}

-- writing failed
abbrev pub IsWritingFault : {F : Type 0} → LinesFault F → Type 0
IsWritingFault (Stopped f) = ⊥
IsWritingFault (Halted h) = h ≡ WriteFault

-- memory is wanting
abbrev pub IsWanting : {F E : Type 0} → (F → Option E) → LinesFault F → Type 0
IsWanting end_of (Stopped f) = end_of f ≡ None
IsWanting end_of (Halted h) = ⊥

-- all lines of a whole file were taken, it was finished, and what this made was put
pub record AreTaken {S : Type 0} (All : S → List ℕ → Type 0) (Finishes : S → List ℕ → Type 0) (IsAt : S → Type 0) (tail : Tail) (old new : Option (List ℕ)) : Type 0 where
  pub state : S
  pub text : List ℕ
  pub last : List ℕ
  pub taken : All state text
  pub whole : tail ≡ AtEnd
  pub finished : Finishes state last
  pub at : IsAt state
  pub put : Appended (text ++ last) old new

-- lines were stopped: what they made up to there was put, if an end is told, and a beginning of each text that they may make, whatever stopped them. Where writing failed, each of these texts has a byte
pub record AreStopped {E : Type 0} (Makes : E → List ℕ → Type 0) (Begins : E → List ℕ → Type 0) (end : Option E) (Failed : Type 0) (old new : Option (List ℕ)) : Type 0 where
  pub whole : (e : E) → end ≡ Some e → (text : List ℕ) × Makes e text × Appended text old new
  pub begun : (e : E) (text : List ℕ) → Begins e text → IsBegun text old new
  pub some : Failed → (e : E) (text : List ℕ) → Begins e text → 0 < length text
