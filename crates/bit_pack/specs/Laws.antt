-- Laws of gamma codes, and of bits in bytes.
use Rattle.std.specs.Prelude.{◌≡◌, ℕ, ◌+◌, ◌*◌, ◌<◌, ◌≤◌, Bool, true, false, List, ◌∷◌, ◌++◌, length, take, replicate}
use Rattle.std.specs.List.{All, flat_map}
use Rattle.bit_pack.specs.Bits.{number, bits_of, AreBytes, Holds, packed}
use Rattle.bit_pack.specs.Gamma.{digits, binary, gamma}

-- no code begins another, and a code tells its number
abbrev pub PrefixFreeLaw : Type 0
PrefixFreeLaw = (m n : ℕ) (x y : List Bool) → 0 < m → 0 < n → gamma m ++ x ≡ gamma n ++ y → (m ≡ n) × (x ≡ y)

-- a code has one bit less than twice the binary digits of its number
abbrev pub LengthLaw : Type 0
LengthLaw = (n : ℕ) → 0 < n → length (gamma n) + 1 ≡ 2 * digits n

-- the binary digits tell the number
abbrev pub BinaryLaw : Type 0
BinaryLaw = (n : ℕ) → number (binary n) ≡ n

-- zero bits, a one and as many bits as there were zero bits are the code of the number that the one and these bits tell
abbrev pub SpellingLaw : Type 0
SpellingLaw = (bits : List Bool) → replicate (length bits) false ++ true ∷ bits ≡ gamma (number (true ∷ bits))

-- lists of numbers that have the same codes, one after another, up to zero bits at the end, are the same
abbrev pub CodesLaw : Type 0
CodesLaw =
    (a b : List ℕ) (p q : ℕ) → All (λ n. 0 < n) a → All (λ n. 0 < n) b →
    flat_map gamma a ++ replicate p false ≡ flat_map gamma b ++ replicate q false → a ≡ b

-- bits are packed into bytes that hold them, and no other bytes hold them
abbrev pub PackedLaw : Type 0
PackedLaw =
    (bits : List Bool) →
    record {
      holds : Holds (packed bits) bits;
      bytes : AreBytes (packed bits);
      only : (bytes : List ℕ) → AreBytes bytes → Holds bytes bits → bytes ≡ packed bits;
    }

-- the bits that bytes hold are read from them again, and of two lists of bits that they hold the longer has zero bits more
abbrev pub HeldLaw : Type 0
HeldLaw =
    (bytes : List ℕ) (a : List Bool) → Holds bytes a →
    record {
      first : take (length a) (bits_of bytes) ≡ a;
      more : (b : List Bool) → Holds bytes b → length a ≤ length b → (p : ℕ) × (p < 8) × (b ≡ a ++ replicate p false);
    }
