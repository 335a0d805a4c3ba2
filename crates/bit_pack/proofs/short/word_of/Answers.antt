use Rattle.std.proofs.Common.{arith}
use Rattle.bit_pack.proofs.WordsHeld.{word_filled}
use Rattle.bit_pack.proofs.short.word_of.Goals as goal

pub returns : goal.returns
returns c = λ few. word_filled c.args.bytes.now c.args.count c.first_word.result.1 c.first_word.result.0 c.requires (omega (arith, c.requires.free.inside, c.first_word.ensures.held)) (omega (arith, c.first_word.ensures.held)) c.first_word.ensures.word
