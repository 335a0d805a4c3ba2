-- QUERIES, as every command that answers queries takes them.
use Rattle.std.specs.Prelude.{◌≡◌, ℕ, List, Some, codes}
use Rattle.wf_io.specs.Told.{File}
use Rattle.wf_io.specs.Lines.{lines_in}
use Rattle.wf_query.specs.Lines.{Ended, All, WrongAt, TooLongAt, LongFileAt, BrokenFile, AreAnswered}
use Rattle.wf_message.specs.Endings.{End, Done, Refused, ReadFault}

-- how a command ends where lines of queries ended so
abbrev pub end_of_lines : Ended → End
end_of_lines All = Done
end_of_lines (WrongAt n) = Refused (codes "queries") (Some n) (codes "LineWrong")
end_of_lines (TooLongAt n) = Refused (codes "queries") (Some n) (codes "LineTooLong")
end_of_lines (LongFileAt n) = Refused (codes "queries") (Some n) (codes "FileTooLong")
end_of_lines BrokenFile = ReadFault (codes "queries")

-- QUERIES, answered line by line by a relation of two names and a word
abbrev pub QueriesStage : (List ℕ → List ℕ → List ℕ → Type 0) → File → End → List ℕ → Type 0
QueriesStage Answers queries ending text = (e : Ended) × AreAnswered Answers (lines_in queries) e text × (ending ≡ end_of_lines e)
