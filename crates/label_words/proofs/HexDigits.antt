-- Words that are hexadecimal digits, two for each byte.
use Rattle.std.proofs.Common.{◌≡◌, ℕ, Bool, true, false, List, length, refl, sym, ap, true≢false}
use Rattle.std.specs.Prelude.{◌↔◌, ◌%◌, Result, Ok, Err, is_ok, IsTrue}
use Rattle.std.specs.List.{AllPass}
use Rattle.hex.specs.declared.error.FromHexError.{FromHexError}
use Rattle.hex.specs.Hex.{decode_of, is_hex_digit}
use Rattle.hex.proofs.HexLemmas.{decode_of-odd, decode_of-ok, decode_of-digits}

-- an odd number of bytes is none
pub odd_is_none : (word : List ℕ) → length word % 2 ≡ 1 → is_ok (decode_of word) ≡ false
odd_is_none word odd = ap is_ok (decode_of-odd word odd)

-- an even number of digits is one
pub digits_are : (word : List ℕ) → length word % 2 ≡ 0 → AllPass is_hex_digit word → is_ok (decode_of word) ≡ true
digits_are word even digits = ap is_ok (decode_of-digits word even digits).1

-- what has a byte that is no digit is none
pub others_are_none : (word : List ℕ) → (AllPass is_hex_digit word → ⊥) → is_ok (decode_of word) ≡ false
others_are_none word other = go (decode_of word) refl
  where
    go : (r : Result (List ℕ) FromHexError) → decode_of word ≡ r → is_ok r ≡ false
    go (Ok bytes) is = absurd (other (decode_of-ok word bytes is).1)
    go (Err e) is = refl

-- so a test of the bytes tells of an even number of them
pub even_is : (word : List ℕ) → length word % 2 ≡ 0 → (b : Bool) → IsTrue b ↔ AllPass is_hex_digit word → b ≡ is_ok (decode_of word)
even_is word even true tells = sym (digits_are word even (tells.0 refl))
even_is word even false tells = sym (others_are_none word (λ digits. true≢false (sym (tells.1 digits))))
