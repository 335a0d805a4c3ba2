use Rattle.std.proofs.Common.{arith, refl}
use Rattle.bit_pack.proofs.Bytes.{length-left, one_is_no_padding, zeros_are_padding}
use Rattle.bit_pack.proofs.scan.is_padding.Goals as goal

pub returns-then-bytes-from-ge8 : goal.returns-then-bytes-from-ge8
returns-then-bytes-from-ge8 c = (λ t. absurd (cc), λ p. absurd (omega (arith, p.few, length-left c.args.bytes.now c.args.from, c.if-bytes-from-ge8.true)))

pub returns-in-Some : goal.returns-in-Some
returns-in-Some c = (λ t. absurd (cc), λ p. absurd (one_is_no_padding _ _ _ c.in-Some.ensures p))

pub returns-in-None : goal.returns-in-None
returns-in-None c = (λ t. zeros_are_padding _ _ c.if-bytes-from-ge8.false c.in-None.ensures, λ p. refl)
