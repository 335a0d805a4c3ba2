-- Lines of queries, answered one by one.
use Rattle.std.specs.Prelude.{◌≡◌, ◌<◌, ℕ, Bool, List, [], ◌++◌, length, take, Option, Some, None, Result, Ok, Err, codes}
use Rattle.wf_io.specs.Told.{Rose, Appended}
use Rattle.wf_io.specs.Lines.{FileLines}
use Rattle.wf_lines.specs.LineStages.{LineEnds, OfLines}
use Rattle.wf_query.specs.Line.{IsQuery, IsNoQuery}
use Rattle.wf_query.specs.declared.batching.BatchFault.{BatchFault}
use Rattle.wf_query.specs.declared.batching.BatchFault.TheVariants.{LineWrong, LineTooLong, FileTooLong, ReadFault, WriteFault, NoMemory}

-- how lines of queries end: all are answered, and the file is whole; the line of a number asks nothing, or is too long; the file goes on past the most bytes that are read of it, in the line of a number; or the file is broken
pub data Ended : Type 0 where
  All : Ended
  WrongAt : ℕ → Ended
  TooLongAt : ℕ → Ended
  LongFileAt : ℕ → Ended
  BrokenFile : Ended

-- the ends that lines of queries come to whatever answers them
abbrev pub query_ends : LineEnds Ended
query_ends = record { too_long = TooLongAt; long_file = LongFileAt; broken = BrokenFile }

-- a relation between two names and the word that answers them has one word at most
abbrev pub IsOneWord : (List ℕ → List ℕ → List ℕ → Type 0) → Type 0
IsOneWord Answers = (first second x y : List ℕ) → Answers first second x → Answers first second y → x ≡ y

-- the text of a query, and the line that is written of it: a word that answers it, and a newline
pub record IsAsked (Answers : List ℕ → List ℕ → List ℕ → Type 0) (text written : List ℕ) : Type 0 where
  pub first : List ℕ
  pub second : List ℕ
  pub query : IsQuery text first second
  pub answer : List ℕ
  pub is : Answers first second answer
  pub line : written ≡ answer ++ codes "\n"

-- the text of a query is answered by what is known, and what is known stays
abbrev pub TakesQuery : {K : Type 0} → (K → List ℕ → List ℕ → List ℕ → Type 0) → K → ℕ → List ℕ → K → List ℕ → Type 0
TakesQuery Words k n text q written = (q ≡ k) × IsAsked (Words k) text written

-- the text of the line of a number asks nothing
abbrev pub StopsQueries : {K : Type 0} → K → ℕ → List ℕ → Ended → List ℕ → Type 0
StopsQueries k number text ending written = IsNoQuery text × (ending ≡ WrongAt number) × (written ≡ [])

-- all lines of a whole file are answered
abbrev pub EndsQueries : {K : Type 0} → K → Ended → List ℕ → Type 0
EndsQueries k ending text = (ending ≡ All) × (text ≡ [])

-- Lines of queries are answered one by one, up to the first that is too long or asks nothing, or to the end of the file
abbrev pub AreAnswered : (List ℕ → List ℕ → List ℕ → Type 0) → FileLines → Ended → List ℕ → Type 0
AreAnswered Answers file ending text = OfLines query_ends (TakesQuery {K = Unit {0}} (λ k. Answers)) StopsQueries EndsQueries tt file.lines file.tail ending text

-- how the lines ended, where a fault ended them; a fault of writing and want of memory tell nothing of them
abbrev pub ended_at : BatchFault → Option Ended
ended_at (LineWrong line) = Some (WrongAt line)
ended_at (LineTooLong line) = Some (TooLongAt line)
ended_at (FileTooLong line) = Some (LongFileAt line)
ended_at ReadFault = Some BrokenFile
ended_at WriteFault = None
ended_at NoMemory = None

-- how they ended by what a call answers
abbrev pub ended_by : {N : Type 0} → Result N BatchFault → Option Ended
ended_by (Ok n) = Some All
ended_by (Err fault) = ended_at fault

-- a call failed to write
abbrev pub FailsToWrite : {N : Type 0} → Result N BatchFault → Type 0
FailsToWrite (Ok n) = ⊥
FailsToWrite (Err fault) = fault ≡ WriteFault

-- What was put of the answers to the lines of a file: all of them, up to where the lines ended; and whatever ended them, a beginning of the answers. Where writing failed there is an answer
pub record ArePut (Answers : List ℕ → List ℕ → List ℕ → Type 0) (file : FileLines) (ending : Option Ended) (Failed : Type 0) (old new : Option (List ℕ)) : Type 0 where
  pub whole : (e : Ended) → ending ≡ Some e → (text : List ℕ) × AreAnswered Answers file e text × Appended text old new
  pub begun : (e : Ended) (text : List ℕ) → AreAnswered Answers file e text → (k : ℕ) × Appended (take k text) old new
  pub some : Failed → (e : Ended) (text : List ℕ) → AreAnswered Answers file e text → 0 < length text

-- what must be so where lines ended, by the counts of faults of the shelf and of out before and after: a fault of reading comes only where the shelf's count rose, and one of writing only where that of out rose. Each count that did not bring the end is as it was
abbrev pub IsCauseOf : ℕ → ℕ → Bool → ℕ → ℕ → Bool → BatchFault → Type 0
IsCauseOf before after last out_before out_after out_last (LineWrong line) = (after ≡ before) × (out_after ≡ out_before)
IsCauseOf before after last out_before out_after out_last (LineTooLong line) = (after ≡ before) × (out_after ≡ out_before)
IsCauseOf before after last out_before out_after out_last (FileTooLong line) = (after ≡ before) × (out_after ≡ out_before)
IsCauseOf before after last out_before out_after out_last ReadFault = Rose before after last × (out_after ≡ out_before)
IsCauseOf before after last out_before out_after out_last WriteFault = (after ≡ before) × Rose out_before out_after out_last
IsCauseOf before after last out_before out_after out_last NoMemory = (after ≡ before) × (out_after ≡ out_before)
