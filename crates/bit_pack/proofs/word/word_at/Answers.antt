use Rattle.std.proofs.Common.{drop, arith}
use Rattle.bit_pack.specs.Bits.{bits_of}
use Rattle.bit_pack.proofs.Bytes.{length-left}
use Rattle.bit_pack.proofs.Words.{no_word, word_of_number}
use Rattle.bit_pack.proofs.word.word_at.Goals as goal

pub returns-then-held-eq0-clause-word : goal.returns-then-held-eq0-clause-word
returns-then-held-eq0-clause-word c = no_word (drop c.args.at (bits_of c.args.bytes.now))

pub returns-clause-word : goal.returns-clause-word
returns-clause-word c = word_of_number (drop c.args.at (bits_of c.args.bytes.now)) c.min-held.result c.number_at.result (omega arith) (omega (arith, length-left c.args.bytes.now c.args.at)) c.number_at.ensures
