use Rattle.std.proofs.Common.{◌+◌, ◌/◌, ap, ◌∙◌, arith}
use Rattle.bit_pack.specs.Written.{first_bits}
use Rattle.bit_pack.proofs.Cutting.{first_kept}
use Rattle.bit_pack.proofs.Filling.{length-first_bits}
use Rattle.bit_pack.proofs.roomy.RoomyWriter.restart.Goals as goal

pub returns-clause-bits : goal.returns-clause-bits
returns-clause-bits c =
    c.cut.ensures.bits ∙ (ap (λ z. first_bits z c.args.count) c.put_anew.ensures.items ∙
    first_kept c.args.bytes.now c.args.count ((c.args.count + 7) / 8) (omega arith) (omega (arith, c.requires.inside)))

pub returns-clause-length : goal.returns-clause-length
returns-clause-length c = length-first_bits c.cut.new.bytes.items c.args.count c.cut.ensures.filled.free.inside
