-- Words of hexadecimal digits.
use Rattle.std.specs.Prelude.{◌≡◌, ℕ, List, [], Result, Ok, Err}
use Rattle.hex.specs.declared.error.FromHexError.{FromHexError}
use Rattle.hex.specs.Hex.{decode_of}

-- the bytes that hexadecimal digits tell
abbrev pub bytes_in : Result (List ℕ) FromHexError → List ℕ
bytes_in (Ok bytes) = bytes
bytes_in (Err e) = []

-- a word is hexadecimal digits of either case, two for each byte
abbrev pub AreDigits : List ℕ → Type 0
AreDigits word = decode_of word ≡ Ok (bytes_in (decode_of word))
