-- The words of `export`, `gen` and `drill`.
use Rattle.std.specs.Prelude.{ℕ, Bool, false, cond, not, ◌&&◌, ◌==◌, nat_le, List, [], ◌∷◌, Option, Some, None, bytes_eq, codes}
use Rattle.std.specs.List.{list_all}
use Rattle.std.specs.Str.Parse.{digits_value}

-- the greatest number of expansions that is asked for
abbrev pub most_expansions : ℕ
most_expansions = 4000000

-- the greatest seed: the greatest number of 64 bits
abbrev pub greatest_seed : ℕ
greatest_seed = 18446744073709551615

-- a decimal digit
abbrev pub is_digit : ℕ → Bool
is_digit b = nat_le 48 b && nat_le b 57

-- a word is a number: `0`, or decimal digits of which the first is not 0
abbrev pub is_number : List ℕ → Bool
is_number [] = false
is_number (b ∷ []) = is_digit b
is_number (b ∷ c ∷ bs) = not (b == 48) && list_all is_digit (b ∷ c ∷ bs)

-- the number that a word is, if it is one up to this one
abbrev pub number_in : ℕ → List ℕ → Option ℕ
number_in most word = cond (is_number word && nat_le (digits_value 10 word) most) (Some (digits_value 10 word)) None

-- a command, by the names of the files that it reads, and the numbers that it is given
pub data Command : Type 0 where
  Export : List ℕ → List ℕ → List ℕ → Command
  Gen : List ℕ → ℕ → ℕ → Command
  Drill : List ℕ → List ℕ → ℕ → ℕ → Command

-- `gen` and `drill` where both words of numbers are numbers: of expansions, and a seed
abbrev pub gen_of : List ℕ → Option ℕ → Option ℕ → Option Command
gen_of s (Some n) (Some seed) = Some (Gen s n seed)
gen_of s (Some n) None = None
gen_of s None seed = None

abbrev pub drill_of : List ℕ → List ℕ → Option ℕ → Option ℕ → Option Command
drill_of s v (Some n) (Some seed) = Some (Drill s v n seed)
drill_of s v (Some n) None = None
drill_of s v None seed = None

-- the command that words are, if they are one of these: its name, a word for each file, and then its numbers
abbrev pub command_of : List (List ℕ) → Option Command
command_of [] = None
command_of (c ∷ []) = None
command_of (c ∷ s ∷ []) = None
command_of (c ∷ s ∷ x ∷ []) = None
command_of (c ∷ s ∷ x ∷ y ∷ []) =
    cond (bytes_eq c (codes "export")) (Some (Export s x y))
    (cond (bytes_eq c (codes "gen")) (gen_of s (number_in most_expansions x) (number_in greatest_seed y)) None)
command_of (c ∷ s ∷ v ∷ x ∷ y ∷ []) =
    cond (bytes_eq c (codes "drill")) (drill_of s v (number_in most_expansions x) (number_in greatest_seed y)) None
command_of (c ∷ s ∷ v ∷ x ∷ y ∷ w ∷ ws) = None

-- the names of the files that a command reads, in their order
abbrev pub files_of : Command → List (List ℕ)
files_of (Export s v e) = s ∷ v ∷ e ∷ []
files_of (Gen s n seed) = s ∷ []
files_of (Drill s v n seed) = s ∷ v ∷ []
