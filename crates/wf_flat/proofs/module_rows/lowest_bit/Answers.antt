use Rattle.std.proofs.Common.{◌<◌, arith}
use Rattle.std.specs.Int.{w64}
use Rattle.std.proofs.lemmas.Nat.Bits.{bit_at-trailing_zeros}
use Rattle.wf_flat.proofs.module_rows.lowest_bit.Goals as goal

pub returns-clause-lowest : goal.returns-clause-lowest
returns-clause-lowest c = let some : 0 < c.args.bits = omega (arith, c.if-bits-eq0.false) in bit_at-trailing_zeros w64 c.args.bits some c.ranges.bits.fits
