use Rattle.bit_pack.proofs.Parts.{number_of_part}
use Rattle.bit_pack.proofs.scan.part_at.Goals as goal

pub returns : goal.returns
returns c = number_of_part c.args.bytes.now c.args.from c.args.count c.requires.some c.requires.one_byte c.requires.inside
