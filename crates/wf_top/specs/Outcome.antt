-- What the program does, by its words and the files that they name: how it ends, and the text that it writes to out.
use Rattle.std.specs.Prelude.{◌≡◌, ℕ, List, [], Option, Some, None}
use Rattle.wf_io.specs.Told.{File}
use Rattle.wf_message.specs.Endings.{End, Usage}
use Rattle.wf_top.specs.Families.{families}

-- a command, with its words, by its family
abbrev pub Command : Type 0
Command = families.Command

-- the command that the words are: that of the first family that takes them
abbrev pub command_of : List (List ℕ) → Option Command
command_of words = families.command_of words

-- the files of a command, in the order in which it reads them
abbrev pub files_of : Option Command → List (List ℕ)
files_of None = []
files_of (Some c) = families.files_of c

-- what a command does over files. Where the words are those of none, the program says how it is called and writes nothing
abbrev pub Does : (List ℕ → File) → Option Command → End → List ℕ → Type 0
Does files None ending text = (ending ≡ Usage) × (text ≡ [])
Does files (Some c) ending text = families.Does files c ending text

-- there is a command, and it has put nothing where it ends for want of memory
abbrev pub PutsNothingWanting : Option Command → Type 0
PutsNothingWanting None = ⊥
PutsNothingWanting (Some c) = families.PutsNothingWanting c

-- how the program ends over files, and the text that it writes to out
abbrev pub IsOutcome : (List ℕ → File) → List (List ℕ) → End → List ℕ → Type 0
IsOutcome files words ending text = Does files (command_of words) ending text
