-- The words of `package`, `consult` and `compare`.
use Rattle.std.specs.Prelude.{ℕ, cond, List, [], ◌∷◌, Option, Some, None, Result, Ok, Err, bytes_eq, codes}
use Rattle.hex.specs.declared.error.FromHexError.{FromHexError}
use Rattle.hex.specs.Hex.{decode_of}

-- a command, by the names of the files that it reads, and the bytes of the labels that it is given
pub data Command : Type 0 where
  Package : List ℕ → List ℕ → Command
  Consult : List ℕ → List ℕ → List ℕ → Command
  Compare : List ℕ → List ℕ → List ℕ → Command

-- `consult` of a file and of what two words are decoded to, where both are hexadecimal digits, two for each byte of a label
abbrev pub consult_of : List ℕ → Result (List ℕ) FromHexError → Result (List ℕ) FromHexError → Option Command
consult_of p (Ok x) (Ok y) = Some (Consult p x y)
consult_of p (Ok x) (Err e) = None
consult_of p (Err e) y = None

-- two files
abbrev pub command_of_two : List ℕ → List ℕ → List ℕ → Option Command
command_of_two c s v = cond (bytes_eq c (codes "package")) (Some (Package s v)) None

-- a file, and two words that are the names of files or the digits of labels
abbrev pub command_of_three : List ℕ → List ℕ → List ℕ → List ℕ → Option Command
command_of_three c s v w =
    cond (bytes_eq c (codes "compare")) (Some (Compare s v w))
    (cond (bytes_eq c (codes "consult")) (consult_of s (decode_of v) (decode_of w)) None)

-- the command that words are, if they are one of these
abbrev pub command_of : List (List ℕ) → Option Command
command_of [] = None
command_of (c ∷ []) = None
command_of (c ∷ s ∷ []) = None
command_of (c ∷ s ∷ v ∷ []) = command_of_two c s v
command_of (c ∷ s ∷ v ∷ w ∷ []) = command_of_three c s v w
command_of (c ∷ s ∷ v ∷ w ∷ x ∷ xs) = None

-- the names of the files that a command reads, in their order
abbrev pub files_of : Command → List (List ℕ)
files_of (Package s v) = s ∷ v ∷ []
files_of (Consult p x y) = p ∷ []
files_of (Compare s v w) = s ∷ v ∷ w ∷ []
