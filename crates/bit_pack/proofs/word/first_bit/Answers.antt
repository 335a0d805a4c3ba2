use Rattle.bit_pack.proofs.Words.{first_bit_is}
use Rattle.bit_pack.proofs.word.first_bit.Goals as goal

pub returns : goal.returns
returns c = λ bits held w some. first_bit_is bits held c.args.word w some
