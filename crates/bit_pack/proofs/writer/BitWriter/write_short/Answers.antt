use Rattle.std.proofs.Common.{◌≤◌, ◌+◌, ◌++◌, length, take, ap, ◌∙◌, arith}
use Rattle.bit_pack.specs.Bits.{low_bits}
use Rattle.bit_pack.specs.Written.{held_bytes}
use Rattle.bit_pack.proofs.Filling.{length-first_bits}
use Rattle.bit_pack.proofs.WordsHeld.{digits_hold}
use Rattle.bit_pack.proofs.writer.BitWriter.write_short.Goals as goal

pub invariant_of-self : goal.invariant_of-self
invariant_of-self c =
    let i = c.self.inside in
    let l = length-first_bits (held_bytes i.eight i.bytes.items i.end) i.end c.self.invariant.written.filled.free.inside in
    let few : i.end ≤ 64 = omega (arith, l, ap length c.self.view_is, c.requires.few) in
    let order : c.args.begun ≤ i.end = omega (arith, l, ap length c.self.view_is, c.requires.begun) in
    (digits_hold (held_bytes i.eight i.bytes.items i.end) _ i.bytes.items i.end i.word c.args.begun c.args.number c.args.count _ c.self.invariant.written few order c.with_digits-word.ensures c.to_be_bytes-self-inside.ensures).1

pub returns-clause-bits : goal.returns-clause-bits
returns-clause-bits c =
    let i = c.self.inside in
    let l = length-first_bits (held_bytes i.eight i.bytes.items i.end) i.end c.self.invariant.written.filled.free.inside in
    let few : i.end ≤ 64 = omega (arith, l, ap length c.self.view_is, c.requires.few) in
    let order : c.args.begun ≤ i.end = omega (arith, l, ap length c.self.view_is, c.requires.begun) in
    (digits_hold (held_bytes i.eight i.bytes.items i.end) _ i.bytes.items i.end i.word c.args.begun c.args.number c.args.count _ c.self.invariant.written few order c.with_digits-word.ensures c.to_be_bytes-self-inside.ensures).0 ∙ ap (λ z. take c.args.begun z ++ low_bits c.args.count c.args.number) c.self.view_is

pub returns-clause-more : goal.returns-clause-more
returns-clause-more c =
    let i = c.self.inside in
    let l = length-first_bits (held_bytes i.eight i.bytes.items i.end) i.end c.self.invariant.written.filled.free.inside in
    let few : i.end ≤ 64 = omega (arith, l, ap length c.self.view_is, c.requires.few) in
    let order : c.args.begun ≤ i.end = omega (arith, l, ap length c.self.view_is, c.requires.begun) in
    let r = digits_hold (held_bytes i.eight i.bytes.items i.end) _ i.bytes.items i.end i.word c.args.begun c.args.number c.args.count _ c.self.invariant.written few order c.with_digits-word.ensures c.to_be_bytes-self-inside.ensures in
    length-first_bits (held_bytes _ i.bytes.items (c.args.begun + c.args.count)) (c.args.begun + c.args.count) r.1.written.filled.free.inside
