-- What takes the lines of a chain makes no text.
use Rattle.std.specs.Prelude.{◌≡◌, ℕ, List, []}
use Rattle.wf_message.specs.Endings.{End}
use Rattle.wf_lines.specs.BegunLines.{BegunLine}
use Rattle.wf_reason.specs.HandedIn.{HandedLine, TakesHanded}

-- a line makes nothing
abbrev pub NothingMade : BegunLine (List HandedLine) → Type 0
NothingMade p = p.made ≡ []

-- the end of a whole file makes nothing
abbrev pub MakesNothing : List HandedLine → List ℕ → Type 0
MakesNothing lines text = text ≡ []

-- and stops nothing
abbrev pub NeverStops : List HandedLine → End → List ℕ → Type 0
NeverStops lines ending text = ⊥

-- a line that is begun is taken at once, and leaves such lines
abbrev pub IsTakenBy : (List HandedLine → Type 0) → BegunLine (List HandedLine) → Type 0
IsTakenBy IsAt p = (q : List HandedLine) × TakesHanded p.state p.number p.text q p.made × IsAt q
