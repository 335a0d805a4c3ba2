-- The Elias gamma code of a number: P. Elias, "Universal codeword sets and representations of the integers", IEEE Transactions on Information Theory 21(2), 1975.
use Rattle.std.specs.Prelude.{◌≡◌, ◌≢◌, ℕ, ◌-◌, ◌<◌, ◌==◌, Bool, false, List, ◌++◌, map, length, replicate}
use Rattle.std.specs.Int.Digits.{digits_of}

-- how many binary digits a number has
unfoldable pub digits : ℕ → ℕ
digits n = length (digits_of 2 n)

-- the binary digits of a number, the most significant first
unfoldable pub binary : ℕ → List Bool
binary n = map (λ d. d == 1) (digits_of 2 n)

-- the code of a number from 1 on: a zero bit for each binary digit but one, and then the digits
unfoldable pub gamma : ℕ → List Bool
gamma n = replicate (digits n - 1) false ++ binary n

-- the bits begin with the code of this number, and these are left
pub record Begins (bits : List Bool) (n : ℕ) (left : List Bool) : Type 0 where
  pub from_one : 0 < n
  pub is : bits ≡ gamma n ++ left

-- the bits do not begin with a whole code
abbrev pub HasNoCode : List Bool → Type 0
HasNoCode bits = (n : ℕ) (left : List Bool) → 0 < n → bits ≢ gamma n ++ left

-- the bits begin with the code of a number above this one
abbrev pub BeginsAbove : List Bool → ℕ → Type 0
BeginsAbove bits most = (n : ℕ) × (left : List Bool) × (most < n) × (bits ≡ gamma n ++ left)
