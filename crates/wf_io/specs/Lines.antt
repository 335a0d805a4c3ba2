-- The lines of a file.
use Rattle.std.specs.Prelude.{ℕ, suc, Bool, true, false, cond, ◌||◌, ◌&&◌, ◌==◌, nat_lt, List, [], ◌∷◌, length, take}
use Rattle.std.specs.Str.Lines.{strip_carriage_return}
use Rattle.wf_io.specs.Told.{File}
use Rattle.wf_io.specs.declared.limits.TheConstants.{LINE_MOST}

-- a line: its number, from 1, and its bytes before the newline
pub record Line : Type 0 where
  pub number : ℕ
  pub raw : List ℕ

-- the byte stands before the first part
abbrev pub put_first : ℕ → List (List ℕ) → List (List ℕ)
put_first b [] = (b ∷ []) ∷ []
put_first b (part ∷ parts) = (b ∷ part) ∷ parts

-- bytes cut at each newline (10): a newline ends each part but the last
abbrev pub parts_of : List ℕ → List (List ℕ)
parts_of [] = [] ∷ []
parts_of (b ∷ bytes) = cond (b == 10) ([] ∷ parts_of bytes) (put_first b (parts_of bytes))

-- what is lent of a line: one carriage return (13) at its end is dropped
abbrev pub text_of : List ℕ → List ℕ
text_of raw = strip_carriage_return raw

-- a line is too long where it has more than 65,536 bytes before its newline, a carriage return among them
abbrev pub is_too_long : List ℕ → Bool
is_too_long raw = nat_lt LINE_MOST (length raw)

-- a line is given where it is too long or its text has a byte
abbrev pub is_given : List ℕ → Bool
is_given raw = is_too_long raw || nat_lt 0 (length (text_of raw))

-- a line with this number stands before others if it is given
abbrev pub with_line : Bool → ℕ → List ℕ → List Line → List Line
with_line given number raw lines = cond given (record { number = number; raw = raw } ∷ lines) lines

-- The lines that are given of parts, numbered from this number on. The last part, which no newline ends, is a line where the file ends whole behind it, or where it is too long already
abbrev pub lines_from : Bool → ℕ → List (List ℕ) → List Line
lines_from ended k [] = []
lines_from ended k (raw ∷ []) = with_line (is_too_long raw || (ended && is_given raw)) k raw []
lines_from ended k (raw ∷ next ∷ parts) = with_line (is_given raw) k raw (lines_from ended (suc k) (next ∷ parts))

-- the number of the last part
abbrev pub last_number : ℕ → List (List ℕ) → ℕ
last_number k [] = k
last_number k (raw ∷ []) = k
last_number k (raw ∷ next ∷ parts) = last_number (suc k) (next ∷ parts)

-- How the lines of a file end: at the end of a whole file; where a broken file breaks; or where it goes on past the most bytes that are read of it, in the line of this number
pub data Tail : Type 0 where
  AtEnd : Tail
  Broken : Tail
  LongFile : ℕ → Tail

-- the lines that are given, in order, and how they end
pub record FileLines : Type 0 where
  pub lines : List Line
  pub tail : Tail

-- how the lines end where the file is this long, may be broken, and the last of its lines has this number
abbrev pub tail_of : Bool → Bool → ℕ → Tail
tail_of long broken number = cond long (LongFile number) (cond broken Broken AtEnd)

abbrev pub is_at_end : Tail → Bool
is_at_end AtEnd = true
is_at_end Broken = false
is_at_end (LongFile number) = false

-- the lines of parts, where the file ends so behind them
abbrev pub lines_before : Tail → ℕ → List (List ℕ) → FileLines
lines_before tail k parts = record { lines = lines_from (is_at_end tail) k parts; tail = tail }

-- the lines of a file of which at most so many bytes are read, numbered from this number on
abbrev pub lines_within : ℕ → ℕ → File → FileLines
lines_within most k file =
    lines_before (tail_of (nat_lt most (length file.bytes)) file.broken (last_number k (parts_of (take most file.bytes)))) k (parts_of (take most file.bytes))

-- The lines of a file, of which at most 2^30 bytes are read
abbrev pub lines_in : File → FileLines
lines_in file = lines_within 1073741824 1 file
