-- What is read of bits.
use Rattle.std.specs.Prelude.{◌≡◌, ℕ, ◌+◌, ◌-◌, ◌*◌, ◌^◌, ◌<◌, ◌≤◌, Bool, true, false, List, ◌∷◌, ◌++◌, length, take, drop, replicate}
use Rattle.bit_pack.specs.Bits.{number, bits_of}

-- how many bits have been read, and those that are left
pub record Reading : Type 0 where
  pub at : ℕ
  pub left : List Bool

-- fewer than eight bits, all zero
pub record IsPadding (bits : List Bool) : Type 0 where
  pub few : length bits < 8
  pub zeros : bits ≡ replicate (length bits) false

-- from the one place on the bits are zeros up to a one at the other
pub record IsNextOne (bits : List Bool) (from at : ℕ) : Type 0 where
  pub order : from ≤ at
  pub inside : at < length bits
  pub is : drop from bits ≡ replicate (at - from) false ++ true ∷ drop (at + 1) bits

-- a word of 64 bits begins with the first of these bits, so many, and then has zero bits
pub record IsWord (bits : List Bool) (held word : ℕ) : Type 0 where
  pub few : held ≤ 64
  pub inside : held ≤ length bits
  pub is : word ≡ number (take held bits) * 2 ^ (64 - held)

-- a word of 64 bits is these bits, and then zero bits
abbrev pub IsWordOf : List Bool → ℕ → Type 0
IsWordOf bits word = IsWord bits (length bits) word

-- a reader stands at this place of bytes, and has the next bits, so many, in a word: none only where none is left
pub record IsReaderAt (bytes : List ℕ) (at held word : ℕ) : Type 0 where
  pub inside : at ≤ 8 * length bytes
  pub few : length bytes < 2 ^ 60
  pub next : IsWord (drop at (bits_of bytes)) held word
  pub some : held ≡ 0 → at ≡ 8 * length bytes
