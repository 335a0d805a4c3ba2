use Rattle.std.proofs.Common.{◌/◌, ◌^◌, eqb, sym, ap, ◌∙◌, ◌∷◌, drop, arith}
use Rattle.bit_pack.specs.Bits.{bits_of}
use Rattle.bit_pack.specs.Reading.{Reading}
use Rattle.bit_pack.proofs.Bytes.{no_bit}
use Rattle.bit_pack.proofs.Words.{first_bit_is}
use Rattle.wf_label.proofs.short.ShortReaderCodes.next_bit.Goals as goal

pub returns-then-self-eq0-clause-ended : goal.returns-then-self-eq0-clause-ended
returns-then-self-eq0-clause-ended c = λ _.
    ap (λ (r : Reading). r.left) (sym c.self.view_is) ∙ no_bit c.self.inside.bytes.now c.self.inside.at (omega (arith, c.self.invariant.all, c.if-self-eq0.true))

pub returns-clause-ok : goal.returns-clause-ok
returns-clause-ok c =
    let bits = drop c.self.inside.at (bits_of c.self.inside.bytes.now) in
    let first = first_bit_is bits c.self.inside.held c.self.inside.word c.self.invariant.next (omega (arith, c.if-self-eq0.false)) in
    ap (λ (r : Reading). r.left) (sym c.self.view_is) ∙ (first ∙ ap (λ z. eqb (c.self.inside.word / 2 ^ 63) 1 ∷ z) (sym (c.go_on.ensures.left ∙ ap (λ (r : Reading). drop 1 r.left) (sym c.self.view_is))))
