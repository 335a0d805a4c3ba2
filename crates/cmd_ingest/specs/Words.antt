-- The words of `ingest`.
use Rattle.std.specs.Prelude.{ℕ, cond, List, [], ◌∷◌, Option, Some, None, bytes_eq, codes}

-- a command, by the names of the files that it reads
pub data Command : Type 0 where
  Ingest : List ℕ → List ℕ → Command

-- the command that words are, if they are one of these: its name and a word for each file
abbrev pub command_of : List (List ℕ) → Option Command
command_of [] = None
command_of (c ∷ []) = None
command_of (c ∷ s ∷ []) = None
command_of (c ∷ s ∷ e ∷ []) = cond (bytes_eq c (codes "ingest")) (Some (Ingest s e)) None
command_of (c ∷ s ∷ e ∷ w ∷ ws) = None

-- the names of the files that a command reads, in their order
abbrev pub files_of : Command → List (List ℕ)
files_of (Ingest s e) = s ∷ e ∷ []
