use Rattle.std.proofs.Common.{◌≤◌, ◌*◌, length, ap, arith}
use Rattle.bit_pack.specs.Reading.{Reading}
use Rattle.bit_pack.proofs.Bytes.{length-left}
use Rattle.bit_pack.proofs.reader.BitReader.go_to.Goals as goal

pub next_word-word-requires-clause-inside : goal.next_word-word-requires-clause-inside
next_word-word-requires-clause-inside c =
    omega (arith, c.requires.inside, ap (λ (r : Reading). r.at) c.self.view_is, ap (λ (r : Reading). length r.left) c.self.view_is, length-left c.self.inside.bytes.now c.self.inside.at, c.self.invariant.inside)

pub invariant_of-self : goal.invariant_of-self
invariant_of-self c =
    let inside : c.args.end ≤ 8 * length c.self.inside.bytes.now =
    omega (arith, c.requires.inside, ap (λ (r : Reading). r.at) c.self.view_is, ap (λ (r : Reading). length r.left) c.self.view_is, length-left c.self.inside.bytes.now c.self.inside.at, c.self.invariant.inside) in
    record { inside = inside; few = c.self.invariant.few; next = c.next_word-word.ensures.word; some = c.next_word-word.ensures.some }
