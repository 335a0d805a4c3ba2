-- What a file with the lines of a chain tells of a run under a view.
use Rattle.std.specs.Prelude.{ℕ, List}
use Rattle.wf_io.specs.Lines.{FileLines}
use Rattle.wf_chain.specs.ViewedRuns.{ViewedRunValue, grammar_in, view_in, full_in, events_in}
use Rattle.wf_reason.specs.HandedIn.{HandedLine, TellsLines}
use Rattle.wf_reason.specs.Checked.{IsCheckedText}

-- this text is said of what its lines say
abbrev pub TellsChecked : ViewedRunValue → FileLines → List ℕ → Type 0
TellsChecked v file text = (lines : List HandedLine) × TellsLines file lines × IsCheckedText (grammar_in v) (view_in v) (full_in v) (grammar_in v).start (events_in v) lines text
