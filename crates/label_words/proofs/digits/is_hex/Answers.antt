use Rattle.std.proofs.Common.{◌≡◌, length, ap, ◌∙◌, arith}
use Rattle.std.specs.Prelude.{◌%◌, is_ok}
use Rattle.hex.specs.Hex.{decode_of}
use Rattle.label_words.proofs.HexDigits.{even_is}
use Rattle.label_words.proofs.digits.is_hex.Goals as goal

pub returns-then-digits-eq0 : goal.returns-then-digits-eq0
returns-then-digits-eq0 c =
    let even : length c.as_bytes-digits.result.now % 2 ≡ 0 = omega (arith, c.if-digits-eq0.true) in
    even_is c.as_bytes-digits.result.now even c.are_digits.result c.are_digits.ensures
    ∙ ap (λ w. is_ok (decode_of w)) c.as_bytes-digits.ensures.value
