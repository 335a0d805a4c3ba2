use Rattle.std.proofs.Common.{◌≡◌, ◌+◌, ◌-◌, ◌*◌, ◌%◌, ◌^◌, drop, subst, ◌∙◌, ap, arith}
use Rattle.std.proofs.lemmas.List.{drop-drop}
use Rattle.bit_pack.specs.Bits.{bits_of}
use Rattle.bit_pack.specs.Reading.{IsWord}
use Rattle.bit_pack.proofs.Words.{word_behind}
use Rattle.bit_pack.proofs.word.next_word.Goals as goal

pub returns-then-passed-held-clause-word : goal.returns-then-passed-held-clause-word
returns-then-passed-held-clause-word c =
    let bits = bits_of c.args.bytes.now in
    let passed = c.args.end - c.args.at in
    let on : c.args.at + passed ≡ c.args.end = omega arith in
    let e = drop-drop passed c.args.at bits ∙ ap (λ z. drop z bits) on in
    subst (λ z. IsWord z (c.args.held - passed) (c.args.word * 2 ^ passed % 2 ^ 64)) e (word_behind (drop c.args.at bits) c.args.held c.args.word c.requires.word passed (omega arith))
