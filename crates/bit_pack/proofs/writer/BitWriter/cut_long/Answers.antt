use Rattle.std.proofs.Common.{◌≡◌, ◌<◌, ◌≤◌, length, take, refl, ap, sym, ◌∙◌, subst, arith}
use Rattle.std.proofs.lemmas.List.{take-take}
use Rattle.bit_pack.specs.Bits.{bits_of}
use Rattle.bit_pack.specs.Reading.{IsWordOf}
use Rattle.bit_pack.specs.Written.{first_bits, held_bytes}
use Rattle.bit_pack.proofs.Filling.{length-first_bits}
use Rattle.bit_pack.proofs.WordsHeld.{held_long, filled_hold}
use Rattle.bit_pack.proofs.writer.BitWriter.cut_long.Goals as goal

pub cut-requires : goal.cut-requires
cut-requires c =
    let i = c.self.inside in
    let l = length-first_bits (held_bytes i.eight i.bytes.items i.end) i.end c.self.invariant.written.filled.free.inside in
    let many : 64 < i.end = omega (arith, l, ap length c.self.view_is, c.requires.many) in
    omega (arith, l, ap length c.self.view_is, c.requires.within, ap length (held_long i.eight i.bytes.items i.end many), c.self.invariant.written.filled.free.inside)

pub invariant_of-self : goal.invariant_of-self
invariant_of-self c =
    let i = c.self.inside in
    let e = c.deref.ensures.value in
    let w : c.args.count ≤ 64 → IsWordOf (first_bits c.cut.new.bytes.items c.args.count) c.word_of-self-inside.result = subst (λ z. c.args.count ≤ 64 → IsWordOf (first_bits z c.args.count) c.word_of-self-inside.result) e c.word_of-self-inside.ensures in
    (filled_hold c.cut.new.bytes.items _ c.cut.new.bytes.items c.args.count _ c.cut.ensures.filled w (λ many. refl) c.to_be_bytes-self-inside.ensures).1

pub returns-clause-bits : goal.returns-clause-bits
returns-clause-bits c =
    let i = c.self.inside in
    let e = c.deref.ensures.value in
    let w : c.args.count ≤ 64 → IsWordOf (first_bits c.cut.new.bytes.items c.args.count) c.word_of-self-inside.result = subst (λ z. c.args.count ≤ 64 → IsWordOf (first_bits z c.args.count) c.word_of-self-inside.result) e c.word_of-self-inside.ensures in
    let l = length-first_bits (held_bytes i.eight i.bytes.items i.end) i.end c.self.invariant.written.filled.free.inside in
    let many : 64 < i.end = omega (arith, l, ap length c.self.view_is, c.requires.many) in
    let within : c.args.count ≤ i.end = omega (arith, l, ap length c.self.view_is, c.requires.within) in
    let same : first_bits i.bytes.items i.end ≡ c.args.self.now = ap (λ z. first_bits z i.end) (sym (held_long i.eight i.bytes.items i.end many)) ∙ c.self.view_is in
    (filled_hold c.cut.new.bytes.items _ c.cut.new.bytes.items c.args.count _ c.cut.ensures.filled w (λ many. refl) c.to_be_bytes-self-inside.ensures).0 ∙ (c.cut.ensures.bits ∙ (sym (take-take c.args.count i.end (bits_of i.bytes.items) within) ∙ ap (take c.args.count) same))

pub returns-clause-length : goal.returns-clause-length
returns-clause-length c =
    let i = c.self.inside in
    let e = c.deref.ensures.value in
    let w : c.args.count ≤ 64 → IsWordOf (first_bits c.cut.new.bytes.items c.args.count) c.word_of-self-inside.result = subst (λ z. c.args.count ≤ 64 → IsWordOf (first_bits z c.args.count) c.word_of-self-inside.result) e c.word_of-self-inside.ensures in
    let r = filled_hold c.cut.new.bytes.items _ c.cut.new.bytes.items c.args.count _ c.cut.ensures.filled w (λ many. refl) c.to_be_bytes-self-inside.ensures in
    length-first_bits (held_bytes _ c.cut.new.bytes.items c.args.count) c.args.count r.1.written.filled.free.inside
