use Rattle.std.proofs.Common.{◌*◌, length}
use Rattle.bit_pack.specs.Bits.{bits_of}
use Rattle.bit_pack.proofs.Words.{front_number}
use Rattle.wf_label.proofs.short.ShortBytes.front.Goals as goal

pub returns : goal.returns
returns c =
    let bytes = c.args.self.bytes.now in
    front_number (bits_of bytes) (8 * length bytes) c.args.self.word c.args.self.held c.args.count c.requires.inside
