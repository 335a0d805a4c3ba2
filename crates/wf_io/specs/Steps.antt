-- What the steps of a reader make of it. No public clause cites this module.
use Rattle.std.specs.Prelude.{◌≡◌, ◌+◌, ◌<◌, ◌≤◌, ◌==◌, ℕ, Bool, true, false, cond, List, [], length, take, drop, position, None, Option, Result, Ok, Err, OnOk, nat_eq}
use Rattle.wf_io.specs.Told.{File}
use Rattle.wf_io.specs.Readings.{Reading, IsReadOn}
use Rattle.wf_io.specs.Windows.{Grows}
use Rattle.wf_io.specs.Lines.{is_too_long, is_given, text_of, AtEnd}
use Rattle.wf_io.specs.Readers.{Reader, file_most, Stands, left_in, left_over, Lends, Refuses, Ends, reached}
use Rattle.wf_io.specs.declared.limits.TheConstants.{LINE_MOST}
use Rattle.wf_io.specs.declared.lines.LineFault.{LineFault}
use Rattle.wf_io.specs.declared.lines.LineFault.TheVariants.{LineTooLong, FileTooLong, Fault}

-- no byte that is held is a newline
abbrev pub HasNoNewline : List ℕ → Type 0
HasNoNewline bytes = position (λ b. b == 10) bytes ≡ None

-- no line is held, and the file goes on
pub record Dry (r : Reader) : Type 0 where
  pub none : HasNoNewline r.kept
  pub short : length r.kept ≤ LINE_MOST
  pub unended : r.ended ≡ false

-- what is true of every reader
pub record Sound (r : Reader) : Type 0 where
  pub within : r.place + length r.kept ≤ file_most
  pub number : r.number ≤ r.place + 1
  pub line : r.line ≤ r.number
  pub later : r.live ≡ true → r.line < r.number
  pub dry : r.wants ≡ true → Dry r

-- behind the line of the first `size` bytes that are held, which are `whole` with its newline; it is lent if it is given
abbrev pub behind : Bool → ℕ → ℕ → Reader → Reader
behind given size whole r = record {
  name = r.name;
  place = r.place + whole;
  kept = drop whole r.kept;
  number = r.number + 1;
  line = cond given r.number r.line;
  held = text_of (take size r.kept);
  live = r.live;
  wants = false;
  ended = r.ended;
}

-- it refuses the line that begins where it stands
abbrev pub refused : Reader → Reader
refused r = record {
  name = r.name;
  place = r.place;
  kept = r.kept;
  number = r.number;
  line = r.number;
  held = r.held;
  live = false;
  wants = false;
  ended = r.ended;
}

-- it looked at all that is held, and wants bytes or not
abbrev pub wanting : Bool → Reader → Reader
wanting wants r = record {
  name = r.name;
  place = r.place;
  kept = r.kept;
  number = r.number;
  line = r.line;
  held = r.held;
  live = r.live;
  wants = wants;
  ended = r.ended;
}

-- what a reader makes of the line of the first bytes that it holds
abbrev pub Takes : ℕ → ℕ → Reader → Reader → Result Bool LineFault → Type 0
Takes size whole old new (Ok given) = (is_too_long (take size old.kept) ≡ false)
    × (is_given (take size old.kept) ≡ given)
    × (new ≡ behind given size whole old)
Takes size whole old new (Err why) = (why ≡ LineTooLong) × (is_too_long (take size old.kept) ≡ true) × (new ≡ refused old)

-- lines that are not given were passed
pub record Skips (old new : Reader) : Type 0 where
  pub stands : (file : File) → Stands file old → Stands file new
  pub left : (file : File) → Stands file old → left_in file new ≡ left_in file old
  pub name : new.name ≡ old.name
  pub live : new.live ≡ old.live
  pub line : new.line ≡ old.line
  pub number : old.number ≤ new.number
  pub reached : reached new ≡ reached old
  pub ended : new.ended ≡ old.ended
  pub less : left_over new ≤ left_over old

-- the first line that is left is lent
pub record Lent (old new : Reader) : Type 0 where
  pub stands : (file : File) → Stands file old → Stands file new
  pub lends : (file : File) → Stands file old → Lends (left_in file old) new (left_in file new)
  pub name : new.name ≡ old.name
  pub live : new.live ≡ old.live
  pub later : old.line < new.line
  pub line : old.number ≤ new.line
  pub next : new.number ≡ new.line + 1
  pub reached : reached new ≡ reached old
  pub ended : new.ended ≡ old.ended
  pub wants : new.wants ≡ false
  pub less : left_over new < left_over old

-- the first line that is left is refused
pub record Refused (old new : Reader) : Type 0 where
  pub refuses : (file : File) → Stands file old → Refuses (left_in file old) new
  pub name : new.name ≡ old.name
  pub live : new.live ≡ false
  pub number : old.number ≤ new.number
  pub line : new.line ≡ new.number
  pub reached : reached new ≡ reached old
  pub ended : new.ended ≡ old.ended
  pub less : left_over new ≤ left_over old

-- what the lines that are held with their newlines give
abbrev pub Holds : Reader → Reader → Result Bool LineFault → Type 0
Holds old new (Ok true) = Lent old new
Holds old new (Ok false) = Skips old new × HasNoNewline new.kept
Holds old new (Err why) = (why ≡ LineTooLong) × Refused old new

-- what all that is held gives
abbrev pub Sought : Reader → Reader → Result Bool LineFault → Type 0
Sought old new (Ok true) = Lent old new
Sought old new (Ok false) = Skips old new × (new.wants ≡ false → (file : File) → Stands file old → Ends (left_in file old) AtEnd)
Sought old new (Err why) = (why ≡ LineTooLong) × Refused old new

-- these bytes are lent and those are held, and behind them the file has ended or not
abbrev pub holding : List ℕ → List ℕ → Bool → Reader → Reader
holding held kept ended r = record {
  name = r.name;
  place = r.place;
  kept = kept;
  number = r.number;
  line = r.line;
  held = held;
  live = r.live;
  wants = false;
  ended = ended;
}

-- it reads no more, in the line of this number, and these bytes are lent
abbrev pub stopped : ℕ → List ℕ → Reader → Reader
stopped line held r = record {
  name = r.name;
  place = r.place;
  kept = r.kept;
  number = r.number;
  line = line;
  held = held;
  live = false;
  wants = false;
  ended = r.ended;
}

-- what a reader makes of the byte where the most bytes were read
abbrev pub SeesEnd : Reader → Reader → Result (Unit {0}) LineFault → Type 0
SeesEnd old new (Ok _) = new ≡ holding old.held old.kept true old
SeesEnd old new (Err LineTooLong) = ⊥
SeesEnd old new (Err FileTooLong) = new ≡ stopped old.number old.held old
SeesEnd old new (Err Fault) = new ≡ stopped old.line old.held old

-- what that says of the file
abbrev pub EndsAt : File → ℕ → Result (Unit {0}) LineFault → Type 0
EndsAt file at (Ok _) = (length file.bytes ≤ at) × (file.broken ≡ false)
EndsAt file at (Err LineTooLong) = ⊥
EndsAt file at (Err FileTooLong) = at < length file.bytes
EndsAt file at (Err Fault) = (length file.bytes ≤ at) × (file.broken ≡ true)

-- what a reader makes of a piece: bytes are held behind those that were, at most so many, and none at the end of the file
abbrev pub Grew : ℕ → Reader → Reader → Result (Unit {0}) LineFault → Type 0
Grew most old new (Ok _) = (n : ℕ) × (n ≤ most) × (length new.kept ≡ length old.kept + n) × (new ≡ holding [] new.kept (nat_eq n 0) old)
Grew most old new (Err why) = (why ≡ Fault) × (new ≡ stopped old.line [] old)

-- what that says of the file
abbrev pub GrewIn : File → ℕ → Reader → Reader → Result (Unit {0}) LineFault → Type 0
GrewIn file at old new (Ok _) = (n : ℕ) × Grows file at old.kept new.kept n × (new.ended ≡ nat_eq n 0)
GrewIn file at old new (Err why) = (length file.bytes ≤ at) × (file.broken ≡ true)

-- a call of the shelf read on from a place: so many bytes more are held, where it gave no fault
abbrev pub HasReadOn : {T E : Type 0} → Reader → Reader → ℕ → Result T E → Option (List Reading) → Option (List Reading) → Type 0
HasReadOn old new at result before after = (count : ℕ) × IsReadOn old.name at count before after × OnOk result (length new.kept ≡ length old.kept + count)
