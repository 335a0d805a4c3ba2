use Rattle.std.proofs.Common.{refl, sym, ap, ◌∙◌, arith}
use Rattle.bit_pack.specs.Reading.{Reading}
use Rattle.bit_pack.proofs.Bytes.{no_bit}
use Rattle.bit_pack.proofs.reader.BitReader.bit.Goals as goal

pub returns-then-self-eq0-clause-ended : goal.returns-then-self-eq0-clause-ended
returns-then-self-eq0-clause-ended c = (λ t. ap (λ (r : Reading). r.left) (sym c.self.view_is) ∙ no_bit c.self.inside.bytes.now c.self.inside.at (omega (arith, c.self.invariant.some c.if-self-eq0.true)), λ e. refl)
