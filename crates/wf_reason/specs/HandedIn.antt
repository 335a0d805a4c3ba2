-- A file with the lines of a chain that was handed in, taken line by line.
use Rattle.std.specs.Prelude.{◌≡◌, ℕ, List, [], ◌∷◌, ◌++◌, map, Some, codes}
use Rattle.wf_io.specs.Told.{File}
use Rattle.wf_io.specs.Lines.{FileLines, AtEnd, lines_in}
use Rattle.wf_lines.specs.LineStages.{LineEnds, AllTaken, OfLines}
use Rattle.wf_message.specs.Endings.{End, Refused}
use Rattle.wf_stage.specs.LineEnds.{line_ends}
use Rattle.wf_reason.specs.declared.turn.Turn.TheVariants.{Item as ItemTurn}
use Rattle.wf_reason.specs.ChainLines.{ChainLine, turn_behind, Says, SaysNothing}

-- a line by its number in the file, and what it says
pub record HandedLine : Type 0 where
  pub number : ℕ
  pub says : ChainLine

-- what lines say, in order
abbrev pub said : List HandedLine → List ChainLine
said lines = map (λ (l : HandedLine). l.says) lines

-- the ends that such a file comes to whatever its lines say
abbrev pub chain_ends : LineEnds End
chain_ends = line_ends (codes "chain")

-- behind lines, a line of a number with a text is taken: it has the form of its turn, and what it says stands behind what the others say
abbrev pub TakesHanded : List HandedLine → ℕ → List ℕ → List HandedLine → List ℕ → Type 0
TakesHanded lines number text after made = (l : ChainLine) × Says (turn_behind ItemTurn lines) text l × (after ≡ lines ++ record { number = number; says = l } ∷ []) × (made ≡ [])

-- it is refused: it has not the form of its turn
abbrev pub RefusesHanded : List HandedLine → ℕ → List ℕ → End → List ℕ → Type 0
RefusesHanded lines number text ending made = SaysNothing (turn_behind ItemTurn lines) text × (ending ≡ Refused (codes "chain") (Some number) (codes "LineWrong")) × (made ≡ [])

-- the file is whole, and this is what its lines say
pub record TellsLines (file : FileLines) (lines : List HandedLine) : Type 0 where
  pub whole : file.tail ≡ AtEnd
  pub taken : AllTaken chain_ends TakesHanded RefusesHanded [] file.lines lines []

-- a file is whole, and each of its lines has the form of its turn
abbrev pub HasLines : File → Type 0
HasLines file = (lines : List HandedLine) × TellsLines (lines_in file) lines

-- CHAIN, as a stage: its lines are taken one by one, up to the first that is too long or has not the form of its turn, or to the end of the file; if it is whole, the program goes on with what they say
abbrev pub ChainStage : FileLines → (List HandedLine → End → List ℕ → Type 0) → End → List ℕ → Type 0
ChainStage file Next ending text = OfLines chain_ends TakesHanded RefusesHanded Next [] file.lines file.tail ending text

-- so it ends the program where nothing follows a whole file
abbrev pub StopsLines : FileLines → End → Type 0
StopsLines file ending = ChainStage file (λ lines e t. ⊥) ending []
