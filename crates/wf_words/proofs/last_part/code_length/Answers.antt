use Rattle.std.proofs.Common.{◌+◌, arith}
use Rattle.bit_pack.proofs.Codes.{digits_counted, length_law}
use Rattle.wf_words.proofs.last_part.code_length.Goals as goal

pub returns : goal.returns
returns c =
    let n = c.args.number in
    let fits = c.ranges.number.fits in
    omega (arith, digits_counted (n + 1) 32 (omega arith) (omega (arith, fits)), length_law (n + 1) (omega arith))
