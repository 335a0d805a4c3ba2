use Rattle.std.proofs.Common.{◌+◌, ◌<◌, slice_index_or, sym, subst, arith, rules}
use Rattle.std.specs.Int.Count.{count_leading_zeros}
use Rattle.bit_pack.specs.Bits.{bits_of}
use Rattle.bit_pack.specs.Reading.{IsNextOne}
use Rattle.bit_pack.proofs.Bytes.{one_after_zeros, zeros_more}
use Rattle.bit_pack.proofs.scan.leading_zeros.Goals as goal

pub returns-then-byte-ne0 : goal.returns-then-byte-ne0
returns-then-byte-ne0 c =
    let i = c.loop-byte.byte-index in
    let x = slice_index_or c.args.bytes.now i 0 in
    let small : x < 256 = search rules in
    subst (λ k. IsNextOne (bits_of c.args.bytes.now) 0 (k + count_leading_zeros 8 x)) (sym c.loop-byte.invariant.count) (one_after_zeros c.args.bytes.now i c.loop-byte-test.true c.loop-byte.invariant.zeros (search rules) small)

pub loop-byte-preserved : goal.loop-byte-preserved
loop-byte-preserved c = record {
  count = omega (arith, c.loop-byte.invariant.count);
  zeros = zeros_more c.args.bytes.now c.loop-byte.byte-index c.loop-byte-test.true c.loop-byte.invariant.zeros (search rules);
}
