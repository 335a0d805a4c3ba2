use Rattle.std.proofs.Common.{◌+◌, ◌++◌, ap, ◌∙◌, arith}
use Rattle.std.proofs.lemmas.List.{take_all}
use Rattle.bit_pack.specs.Bits.{low_bits}
use Rattle.bit_pack.proofs.LowBits.{low_bits-zeros, more_digits}
use Rattle.bit_pack.proofs.writer.BitWriter.write.Goals as goal

pub write_short-requires-clause-fits : goal.write_short-requires-clause-fits
write_short-requires-clause-fits c = more_digits c.args.number c.args.digits (c.args.zeros + c.args.digits) c.requires.fits (omega arith)

pub returns-then-end-zeros-le64-clause-ok : goal.returns-then-end-zeros-le64-clause-ok
returns-then-end-zeros-le64-clause-ok c =
    let old = c.args.self.now in
    let all = take_all c.length-end.result old (omega (arith, c.length-end.ensures)) in
    c.write_short.ensures.bits ∙ (ap (λ z. z ++ low_bits (c.args.zeros + c.args.digits) c.args.number) all ∙ ap (λ z. old ++ z) (low_bits-zeros c.args.zeros c.args.digits c.args.number c.requires.fits))
