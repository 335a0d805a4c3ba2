-- The first byte that passes a test, as a search for it finds it.
use Rattle.std.proofs.Common.{◌≡◌, ℕ, ◌<◌, Bool, true, false, List, length, get_or, Option, Some, None, refl, arith}
use Rattle.std.specs.Prelude.{position}
use Rattle.std.specs.List.{position_or_len}
use Rattle.std.proofs.lemmas.Grind.{common_steps}
use Rattle.std.proofs.lemmas.List.Sums.{position_or_len_is}
use Rattle.memchr.specs.Find.{IsFirstByte}

fails : (b : Bool) → ¬ (b ≡ true) → b ≡ false
fails true h = absurd (h refl)
fails false h = refl

-- it is the first in the list
pub first_byte : (test : ℕ → Bool) (bytes : List ℕ) (found : Option ℕ) → IsFirstByte test bytes found → found ≡ position test bytes
first_byte test bytes None h =
    let past : position_or_len test bytes ≡ length bytes = position_or_len_is test bytes (length bytes) 0 (omega arith) (λ k below. fails (test (get_or bytes k 0)) (h k (omega arith) below)) (λ below. absurd (omega (arith, below))) in
    grind (arith, common_steps)
first_byte test bytes (Some k) h =
    let inside : k < length bytes = h.0.high in
    let at : position_or_len test bytes ≡ k = position_or_len_is test bytes k 0 (omega (arith, inside)) (λ j below. fails (test (get_or bytes j 0)) (h.0.before j (omega arith) below)) (λ _. h.1) in
    grind (arith, common_steps)
