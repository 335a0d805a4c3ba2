-- Bits that are all held in a word.
use Rattle.std.specs.Prelude.{◌≡◌, ℕ, ◌+◌, ◌*◌, ◌≤◌, List, length, drop}
use Rattle.bit_pack.specs.Bits.{bits_of}
use Rattle.bit_pack.specs.Reading.{IsWord}

-- a reader stands at this place of bytes, and has all bits that are left in a word
pub record IsShortAt (bytes : List ℕ) (at held word : ℕ) : Type 0 where
  pub few : length bytes ≤ 8
  pub next : IsWord (drop at (bits_of bytes)) held word
  pub all : at + held ≡ 8 * length bytes
