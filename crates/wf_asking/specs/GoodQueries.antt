-- Files of QUERIES in which nothing is refused.
use Rattle.std.specs.Prelude.{◌≡◌, ℕ, false, List}
use Rattle.wf_model.specs.Lists.{IsIn}
use Rattle.wf_io.specs.Lines.{Line, FileLines, AtEnd, is_too_long, text_of}
use Rattle.wf_query.specs.Line.{IsQuery}

-- the line is not too long, and asks a query
abbrev pub IsQueryLine : Line → Type 0
IsQueryLine l = (is_too_long l.raw ≡ false) × ((first : List ℕ) × (second : List ℕ) × IsQuery (text_of l.raw) first second)

-- the file is whole, and each of its lines asks a query
abbrev pub AreQueries : FileLines → Type 0
AreQueries file = ((l : Line) → IsIn l file.lines → IsQueryLine l) × (file.tail ≡ AtEnd)
