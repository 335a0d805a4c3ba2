-- Bits: the number that they tell, and how they fill bytes.
use Rattle.std.specs.Prelude.{◌≡◌, ℕ, zero, suc, ◌-◌, ◌*◌, ◌/◌, ◌%◌, ◌^◌, ◌<◌, ◌==◌, Bool, false, if◌then◌else◌, List, [], ◌∷◌, ◌++◌, map, length, replicate}
use Rattle.std.specs.List.{All, flat_map}
use Rattle.std.specs.Int.Digits.{number_from_digits}

-- the number that these bits are the binary digits of, the most significant first
abbrev pub number : List Bool → ℕ
number bits = number_from_digits 2 (map (λ b. if b then 1 else 0) bits)

-- the lowest binary digits of a number, so many, the most significant first
unfoldable pub low_bits : ℕ → ℕ → List Bool
low_bits zero n = []
low_bits (suc w) n = low_bits w (n / 2) ++ (n % 2 == 1) ∷ []

-- the bits of bytes: eight of each, the most significant first
abbrev pub bits_of : List ℕ → List Bool
bits_of bytes = flat_map (low_bits 8) bytes

abbrev pub AreBytes : List ℕ → Type 0
AreBytes bytes = All (λ b. b < 256) bytes

-- the bytes are these bits and then zero bits, fewer than eight
pub record Holds (bytes : List ℕ) (bits : List Bool) : Type 0 where
  pub padding : ℕ
  pub few : padding < 8
  pub is : bits_of bytes ≡ bits ++ replicate padding false

-- the byte that begins with these bits, at most eight, and ends in zero bits
abbrev pub byte_of : List Bool → ℕ
byte_of bits = number bits * 2 ^ (8 - length bits)

-- Bits fill bytes. Those that come first here, fewer than eight, are in the byte that is begun. The last byte ends in zero bits
abbrev pub packed_after : List Bool → List Bool → List ℕ
packed_after begun [] = if length begun == 0 then [] else byte_of begun ∷ []
packed_after begun (b ∷ bits) =
    (if length begun == 7 then byte_of (begun ++ b ∷ []) ∷ [] else []) ++ packed_after (if length begun == 7 then [] else begun ++ b ∷ []) bits

-- the bytes that bits fill
unfoldable pub packed : List Bool → List ℕ
packed bits = packed_after [] bits
