-- The words of `words`.
use Rattle.std.specs.Prelude.{ℕ, cond, List, [], ◌∷◌, Option, Some, None, bytes_eq, codes}

-- a command, by the names of the files that it reads
pub data Command : Type 0 where
  Words : List ℕ → List ℕ → List ℕ → List ℕ → List ℕ → Command

-- the command that words are, if they are one of these: its name and a word for each file
abbrev pub command_of : List (List ℕ) → Option Command
command_of [] = None
command_of (c ∷ []) = None
command_of (c ∷ s ∷ []) = None
command_of (c ∷ s ∷ v ∷ []) = None
command_of (c ∷ s ∷ v ∷ a ∷ []) = None
command_of (c ∷ s ∷ v ∷ a ∷ l ∷ []) = None
command_of (c ∷ s ∷ v ∷ a ∷ l ∷ q ∷ []) = cond (bytes_eq c (codes "words")) (Some (Words s v a l q)) None
command_of (c ∷ s ∷ v ∷ a ∷ l ∷ q ∷ w ∷ ws) = None

-- the names of the files that a command reads, in their order
abbrev pub files_of : Command → List (List ℕ)
files_of (Words s v a l q) = s ∷ v ∷ a ∷ l ∷ q ∷ []
