use Rattle.std.proofs.Common.{rules, ◌+◌, ◌<◌, ◌^◌, length, ap, arith}
use Rattle.bit_pack.specs.Written.{held_bytes}
use Rattle.bit_pack.proofs.Filling.{length-first_bits}
use Rattle.bit_pack.proofs.WordsHeld.{long_hold}
use Rattle.bit_pack.proofs.writer.BitWriter.write_long.Goals as goal

pub append-requires-clause-few : goal.append-requires-clause-few
append-requires-clause-few c =
    let i = c.self.inside in
    omega (arith, length-first_bits (held_bytes i.eight i.bytes.items i.end) i.end c.self.invariant.written.filled.free.inside, ap length c.self.view_is, c.requires.room)

pub overflow_add-self-2 : goal.overflow_add-self-2
overflow_add-self-2 c =
    let i = c.self.inside in
    let few : i.end < 2 ^ 31 = omega (arith, length-first_bits (held_bytes i.eight i.bytes.items i.end) i.end c.self.invariant.written.filled.free.inside, ap length c.self.view_is, c.requires.room) in
    let fits : i.end + (c.args.zeros + c.args.digits) < 2 ^ 32 = omega (arith, c.requires.zeros, c.requires.digits) in
    search (rules, fits)

pub returns-clause-more : goal.returns-clause-more
returns-clause-more c =
    let i = c.self.inside in
    let l = length-first_bits (held_bytes i.eight i.bytes.items i.end) i.end c.self.invariant.written.filled.free.inside in
    let all = i.end + (c.args.zeros + c.args.digits) in
    let many : 64 < all = omega (arith, l, ap length c.self.view_is, c.requires.long) in
    let r = long_hold i.eight c.append.new.bytes.items all i.word many c.in_ok-append.ensures.filled c.self.invariant.same in
    omega (arith, l, length-first_bits (held_bytes i.eight c.append.new.bytes.items all) all r.1.written.filled.free.inside, ap length c.self.view_is)
