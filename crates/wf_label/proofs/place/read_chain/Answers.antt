use Rattle.std.proofs.Common.{◌+◌, length, ap, arith, length-append}
use Rattle.bit_pack.specs.Gamma.{gamma}
use Rattle.wf_label.proofs.MarksRead.{ok_from, some_bit, chain_number, chain_read}
use Rattle.wf_label.proofs.place.read_chain.Goals as goal

pub unwrap-requires : goal.unwrap-requires
unwrap-requires over c = ok_from c.next_number.result (λ e. chain_number c.args.g.now.core c.args.m.0 (over.R.Codes.reading c.args.bits.now).left c.requires.place.0 c.requires.on_cycle c.requires.place.1 (c.next_number.ensures.malformed e))

pub returns-clause-read : goal.returns-clause-read
returns-clause-read over c = λ marks h.
    let number = rw c.unwrap.ensures at c.next_number.ensures.read in
    chain_read c.args.g.now.core c.args.m.0 c.unwrap.result (over.R.Codes.reading c.args.bits.now).left (over.R.Codes.reading c.next_number.new.self).left marks c.requires.on_cycle h number.is

pub returns-clause-fewer : goal.returns-clause-fewer
returns-clause-fewer over c =
    let number = rw c.unwrap.ensures at c.next_number.ensures.read in
    omega (arith, ap length number.is, length-append (gamma (c.unwrap.result + 1)) (over.R.Codes.reading c.next_number.new.self).left, some_bit c.unwrap.result)
