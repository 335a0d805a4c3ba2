use Rattle.std.proofs.Common.{◌≡◌, length, drop, sym, arith}
use Rattle.std.proofs.lemmas.Bool.{eqb-true, eq-eqb}
use Rattle.bit_pack.specs.Bits.{bits_of}
use Rattle.bit_pack.proofs.Bytes.{length-left}
use Rattle.wf_label.proofs.ShortWords.{word_padding, padding_word}
use Rattle.wf_label.proofs.short.ShortReader.padding.Goals as goal

pub returns-then-self-lt8 : goal.returns-then-self-lt8
returns-then-self-lt8 c =
    let bytes = c.self.inside.bytes.now in
    let bits = drop c.self.inside.at (bits_of bytes) in
    let all : c.self.inside.held ≡ length bits = omega (arith, c.self.invariant.all, length-left bytes c.self.inside.at) in
    rw (sym c.self.view_is) (
      (λ e. word_padding bits c.self.inside.held c.self.inside.word c.self.invariant.next all c.if-self-lt8.true (eqb-true c.self.inside.word 0 e)),
      (λ p. eq-eqb c.self.inside.word 0 (padding_word bits c.self.inside.held c.self.inside.word c.self.invariant.next all p)),
    )
