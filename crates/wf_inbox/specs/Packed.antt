-- Names that lie one behind the other in one text: before each stands its length. A length below 255 is one byte; another is the byte 255, and then four bytes, the lowest first.
use Rattle.std.specs.Prelude.{ℕ, zero, suc, ◌==◌, nat_lt, cond, List, [], ◌∷◌, ◌++◌, length, take, drop}
use Rattle.std.specs.Int.{w32, to_le_bytes, from_le_bytes}

-- a length, as it is written
abbrev pub length_bytes : ℕ → List ℕ
length_bytes n = cond (nat_lt n 255) (n ∷ []) (255 ∷ to_le_bytes w32 n)

-- a name, as it is written
abbrev pub name_bytes : List ℕ → List ℕ
name_bytes name = length_bytes (length name) ++ name

-- a length that is read from a text, and the rest of the text
pub record LengthRead : Type 0 where
  pub size : ℕ
  pub rest : List ℕ

abbrev pub none_read : LengthRead
none_read = record { size = 0; rest = [] }

-- one that is written as four bytes
abbrev pub read_four : List ℕ → LengthRead
read_four [] = none_read
read_four (a ∷ []) = none_read
read_four (a ∷ b ∷ []) = none_read
read_four (a ∷ b ∷ c ∷ []) = none_read
read_four (a ∷ b ∷ c ∷ d ∷ rest) = record { size = from_le_bytes w32 (a ∷ b ∷ c ∷ d ∷ []); rest = rest }

abbrev pub read_length : List ℕ → LengthRead
read_length [] = none_read
read_length (n ∷ rest) = cond (n == 255) (read_four rest) (record { size = n; rest = rest })

-- the first name of a text
abbrev pub first_name : List ℕ → List ℕ
first_name text = take (read_length text).size (read_length text).rest

-- the text behind it
abbrev pub behind_first : List ℕ → List ℕ
behind_first text = drop (read_length text).size (read_length text).rest

-- at most so many names of a text
abbrev pub some_names : ℕ → List ℕ → List (List ℕ)
some_names zero text = []
some_names (suc n) [] = []
some_names (suc n) (b ∷ text) = first_name (b ∷ text) ∷ some_names n (behind_first (b ∷ text))

-- the names of a text
abbrev pub names_in : List ℕ → List (List ℕ)
names_in text = some_names (length text) text
