-- Bytes that are written bit by bit from the front.
use Rattle.std.specs.Prelude.{◌≡◌, ℕ, ◌+◌, ◌-◌, ◌*◌, ◌/◌, ◌^◌, ◌<◌, ◌≤◌, nat_le, if◌then◌else◌, Bool, false, List, ◌++◌, length, take, drop, replicate}
use Rattle.std.specs.Int.{w64, to_be_bytes}
use Rattle.bit_pack.specs.Bits.{bits_of, AreBytes}
use Rattle.bit_pack.specs.Reading.{IsWordOf}

-- the first bits of bytes, so many
abbrev pub first_bits : List ℕ → ℕ → List Bool
first_bits bytes n = take n (bits_of bytes)

-- from this place on the bytes have only zero bits
pub record IsFree (bytes : List ℕ) (n : ℕ) : Type 0 where
  pub inside : n ≤ 8 * length bytes
  pub zeros : drop n (bits_of bytes) ≡ replicate (8 * length bytes - n) false

-- fewer than eight zero bits follow the first bits, so many
pub record IsFilled (bytes : List ℕ) (n : ℕ) : Type 0 where
  pub free : IsFree bytes n
  pub few : 8 * length bytes < n + 8

-- the bytes are filled with so many bits, and a word is these bits where they are at most 64
pub record IsWritten (bytes : List ℕ) (n word : ℕ) : Type 0 where
  pub filled : IsFilled bytes n
  pub held : n ≤ 64 → IsWordOf (first_bits bytes n) word

-- the bytes are filled with so many bits, fewer than 2^32
pub record IsWhole (bytes : List ℕ) (n : ℕ) : Type 0 where
  pub filled : IsFilled bytes n
  pub are_bytes : AreBytes bytes
  pub few : n < 2 ^ 32

-- the bytes that so many bits fill: of at most 64 bits they are the first of eight bytes
abbrev pub held_bytes : List ℕ → List ℕ → ℕ → List ℕ
held_bytes eight bytes n = if nat_le n 64 then take ((n + 7) / 8) eight else bytes

-- eight bytes, or others where there are more than 64 bits, are filled with so many bits; a word has the eight, and is the bits where they are at most 64
pub record IsHeldBy (eight bytes : List ℕ) (n word : ℕ) : Type 0 where
  pub written : IsWritten (held_bytes eight bytes n) n word
  pub same : eight ≡ to_be_bytes w64 word

-- the bytes have the same first bits, and room for some more
pub record HasRoom (old new : List ℕ) (n count : ℕ) : Type 0 where
  pub same : first_bits new n ≡ first_bits old n
  pub free : IsFree new n
  pub enough : n + count ≤ 8 * length new
  pub few : 8 * length new < n + count + 8

-- the bytes have these bits after the first bits, so many, and then only zero bits
pub record Writes (old new : List ℕ) (n : ℕ) (more : List Bool) : Type 0 where
  pub bits : first_bits new (n + length more) ≡ first_bits old n ++ more
  pub free : IsFree new (n + length more)
