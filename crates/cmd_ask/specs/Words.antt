-- The words of `trace` and `ask`.
use Rattle.std.specs.Prelude.{ℕ, cond, List, [], ◌∷◌, Option, Some, None, bytes_eq, codes}

-- a command, by the names of the files that it reads
pub data Command : Type 0 where
  Trace : List ℕ → List ℕ → List ℕ → List ℕ → Command
  Ask : List ℕ → List ℕ → List ℕ → List ℕ → Command

-- the command that words are, if they are one of these: its name and a word for each file
abbrev pub command_of : List (List ℕ) → Option Command
command_of [] = None
command_of (c ∷ []) = None
command_of (c ∷ s ∷ []) = None
command_of (c ∷ s ∷ v ∷ []) = None
command_of (c ∷ s ∷ v ∷ t ∷ []) = None
command_of (c ∷ s ∷ v ∷ t ∷ q ∷ []) =
    cond (bytes_eq c (codes "trace")) (Some (Trace s v t q)) (cond (bytes_eq c (codes "ask")) (Some (Ask s v t q)) None)
command_of (c ∷ s ∷ v ∷ t ∷ q ∷ w ∷ ws) = None

-- the names of the files that a command reads, in their order
abbrev pub files_of : Command → List (List ℕ)
files_of (Trace s v e q) = s ∷ v ∷ e ∷ q ∷ []
files_of (Ask s v l q) = s ∷ v ∷ l ∷ q ∷ []

-- the command is `ask`
abbrev pub IsAsk : Command → Type 0
IsAsk (Trace s v e q) = ⊥
IsAsk (Ask s v l q) = Unit {0}
