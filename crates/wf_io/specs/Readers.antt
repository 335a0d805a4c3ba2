-- A reader of the lines of a file, and what is left of the file.
use Rattle.std.specs.Prelude.{◌≡◌, ◌⊎◌, ◌+◌, ◌-◌, ◌<◌, ◌≤◌, ℕ, Bool, true, false, cond, List, ◌∷◌, [], ◌++◌, length, drop, Option, Result, Ok, Err}
use Rattle.wf_io.specs.Told.{File}
use Rattle.wf_io.specs.Readings.{Reading, read_to, IsReadOnce}
use Rattle.wf_io.specs.Lines.{Line, FileLines, Tail, AtEnd, Broken, LongFile, is_too_long, text_of, lines_within}
use Rattle.wf_io.specs.declared.lines.LineFault.{LineFault}
use Rattle.wf_io.specs.declared.lines.LineFault.TheVariants.{LineTooLong, FileTooLong, Fault}

-- A reader: the name of its file; the bytes that it read and holds, of which no line is lent yet, and the place in the file where they begin; the number of the line that begins there; the number of the line that was last lent or refused (0 before), and the text that was last lent.
-- It is live until it refuses; it wants bytes where it holds no line; and it has ended where the file has, behind what it holds
pub record Reader : Type 0 where
  pub name : List ℕ
  pub place : ℕ
  pub kept : List ℕ
  pub number : ℕ
  pub line : ℕ
  pub held : List ℕ
  pub live : Bool
  pub wants : Bool
  pub ended : Bool

-- the most bytes that are read of a file
abbrev pub file_most : ℕ
file_most = 1073741824

-- the reader stands in the file: the bytes that it holds are those of the file at its place, and where it has ended these are the last of a whole file
pub record Stands (file : File) (r : Reader) : Type 0 where
  pub rest : List ℕ
  pub bytes : drop r.place file.bytes ≡ r.kept ++ rest
  pub within : r.place ≤ length file.bytes
  pub whole : r.ended ≡ true → (rest ≡ []) × (file.broken ≡ false)

-- the lines that are left of the file from where the reader stands
abbrev pub left_in : File → Reader → FileLines
left_in file r = lines_within (file_most - r.place) r.number (record { bytes = drop r.place file.bytes; broken = file.broken })

-- how much is left to do, at most: each line that is lent, and each piece that is read, makes it less
abbrev pub left_over : Reader → ℕ
left_over r = (file_most - r.place) + (file_most - (r.place + length r.kept)) + cond r.ended 0 1

-- the first line that is left is lent: its number, and its text
pub record Lends (old : FileLines) (r : Reader) (new : FileLines) : Type 0 where
  pub first : Line
  pub left : old.lines ≡ first ∷ new.lines
  pub tail : new.tail ≡ old.tail
  pub short : is_too_long first.raw ≡ false
  pub text : r.held ≡ text_of first.raw
  pub number : r.line ≡ first.number

-- the first line that is left is refused, since it is too long
pub record Refuses (old : FileLines) (r : Reader) : Type 0 where
  pub first : Line
  pub later : List Line
  pub left : old.lines ≡ first ∷ later
  pub long : is_too_long first.raw ≡ true
  pub number : r.line ≡ first.number

-- no line is left, and the file ends so
abbrev pub Ends : FileLines → Tail → Type 0
Ends old tail = (old.lines ≡ []) × (old.tail ≡ tail)

-- why no more lines come of what is left of a file
abbrev pub Stops : FileLines → Reader → LineFault → Type 0
Stops old r LineTooLong = Refuses old r
Stops old r FileTooLong = Ends old (LongFile r.line)
Stops old r Fault = Ends old Broken

-- what is left is as it was, or its first line is lent
abbrev pub Seeks : Bool → FileLines → Reader → FileLines → Type 0
Seeks true old r new = Lends old r new
Seeks false old r new = (new ≡ old) × (r.wants ≡ false → Ends old AtEnd)

-- the first line that is left is lent, or the file is at its end
abbrev pub Advances : Bool → FileLines → Reader → FileLines → Type 0
Advances true old r new = Lends old r new
Advances false old r new = Ends old AtEnd

-- Which line is the one that was lent or refused last, by what a call of the reader answers, whatever the shelf tells. Where a line is lent, the next one begins behind it. Where the file is at its end, or reading failed, it is the one from before. Where a line is refused, it is the one that begins where the reader stands
abbrev pub TellsLine : Reader → Reader → Result Bool LineFault → Type 0
TellsLine old new (Ok true) = (old.number ≤ new.line) × (new.number ≡ new.line + 1)
TellsLine old new (Ok false) = (old.number ≤ new.number) × (new.line ≡ old.line)
TellsLine old new (Err LineTooLong) = (old.number ≤ new.number) × (new.line ≡ new.number)
TellsLine old new (Err FileTooLong) = (old.number ≤ new.number) × (new.line ≡ new.number)
TellsLine old new (Err Fault) = (old.number ≤ new.number) × (new.line ≡ old.line)

-- so where a piece of the file is read: no line is lent
abbrev pub FillsLine : Reader → Reader → Result (Unit {0}) LineFault → Type 0
FillsLine old new (Ok x) = TellsLine old new (Ok false)
FillsLine old new (Err fault) = TellsLine old new (Err fault)

-- the place in the file behind the bytes that the reader holds: up to there it has read
abbrev pub reached : Reader → ℕ
reached r = r.place + length r.kept

-- What the reader has read of its file, of a shelf that told these readings when the reader was opened: nothing yet; or all bytes from the beginning on up to where it is now
abbrev pub HasReadTo : Reader → Option (List Reading) → Option (List Reading) → Type 0
HasReadTo r opened now = ((now ≡ opened) × (reached r ≡ 0)) ⊎ ((now ≡ read_to r.name (reached r) opened) × (reached r ≡ 0 → r.ended ≡ true))

-- it has read its file so, whatever was told when it was opened
abbrev pub IsReading : Reader → Option (List Reading) → Type 0
IsReading r now = (opened : Option (List Reading)) × HasReadTo r opened now

-- it goes on so
abbrev pub GoesOnReading : Reader → Reader → Option (List Reading) → Option (List Reading) → Type 0
GoesOnReading old new before after = (opened : Option (List Reading)) → HasReadTo old opened before → HasReadTo new opened after

-- since it was opened it has read its file once at most
abbrev pub HasReadOnce : Reader → Option (List Reading) → Option (List Reading) → Type 0
HasReadOnce old before after = (opened : Option (List Reading)) → HasReadTo old opened before → IsReadOnce old.name opened after
