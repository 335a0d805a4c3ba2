use Rattle.std.proofs.Common.{◌*◌, length, arith}
use Rattle.bit_pack.specs.Bits.{bits_of}
use Rattle.bit_pack.proofs.Words.{word_behind}
use Rattle.wf_label.proofs.short.ShortReader.new.Goals as goal

pub invariant_of-result : goal.invariant_of-result
invariant_of-result c =
    let bytes = c.args.short.bytes.now in
    let held = c.args.short.held in record {
      few = omega (arith, held.few);
      next = word_behind (bits_of bytes) (8 * length bytes) c.args.short.word held c.args.at c.requires.inside;
      all = omega (arith, c.requires.inside);
    }
