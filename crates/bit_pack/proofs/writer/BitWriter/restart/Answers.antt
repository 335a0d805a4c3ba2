use Rattle.bit_pack.proofs.WordsHeld.{filled_hold}
use Rattle.bit_pack.proofs.writer.BitWriter.restart.Goals as goal

pub invariant_of-self-2 : goal.invariant_of-self-2
invariant_of-self-2 c = (filled_hold c.args.bytes.now _ c.take_over.new.bytes.items c.args.count _ c.requires c.word_of-self-inside.ensures c.in_ok-take_over.ensures c.to_be_bytes-self-inside.ensures).1

pub returns-clause-ok : goal.returns-clause-ok
returns-clause-ok c = (filled_hold c.args.bytes.now _ c.take_over.new.bytes.items c.args.count _ c.requires c.word_of-self-inside.ensures c.in_ok-take_over.ensures c.to_be_bytes-self-inside.ensures).0
