-- The words of `decide`.
use Rattle.std.specs.Prelude.{◌≡◌, ℕ, cond, List, [], ◌∷◌, Option, Some, None, Result, Ok, Err, bytes_eq, codes}
use Rattle.hex.specs.declared.error.FromHexError.{FromHexError}
use Rattle.hex.specs.Hex.{decode_of}

-- a command, by the names of the files that it reads, and the bytes of the labels that it is given
pub data Command : Type 0 where
  Decide : List ℕ → List ℕ → List ℕ → List ℕ → Command

-- `decide` of two files and of what two words are decoded to, where both are hexadecimal digits, two for each byte of a label
abbrev pub decide_of : List ℕ → List ℕ → Result (List ℕ) FromHexError → Result (List ℕ) FromHexError → Option Command
decide_of s v (Ok x) (Ok y) = Some (Decide s v x y)
decide_of s v (Ok x) (Err e) = None
decide_of s v (Err e) y = None

-- the command that words are, if they are one of these: its name and a word for each file and label
abbrev pub command_of : List (List ℕ) → Option Command
command_of [] = None
command_of (c ∷ []) = None
command_of (c ∷ s ∷ []) = None
command_of (c ∷ s ∷ v ∷ []) = None
command_of (c ∷ s ∷ v ∷ x ∷ []) = None
command_of (c ∷ s ∷ v ∷ x ∷ y ∷ []) = cond (bytes_eq c (codes "decide")) (decide_of s v (decode_of x) (decode_of y)) None
command_of (c ∷ s ∷ v ∷ x ∷ y ∷ w ∷ ws) = None

-- the names of the files that a command reads, in their order
abbrev pub files_of : Command → List (List ℕ)
files_of (Decide s v x y) = s ∷ v ∷ []
