use Rattle.bit_pack.proofs.WordsHeld.{first_digits_kept}
use Rattle.bit_pack.proofs.short.first_of.Goals as goal

pub returns : goal.returns
returns c = first_digits_kept c.args.word c.args.count c.requires
