use Rattle.std.proofs.Common.{◌≡◌, ◌-◌, ◌*◌, ◌%◌, ◌^◌, length, take, sym, ap, ◌∙◌, subst, arith}
use Rattle.std.proofs.lemmas.List.{length-take-le}
use Rattle.bit_pack.specs.Bits.{number, bits_of}
use Rattle.bit_pack.specs.Reading.{IsWord}
use Rattle.bit_pack.proofs.Packing.{length-bits_of}
use Rattle.bit_pack.proofs.Words.{first_bytes, no_word, word_of_number}
use Rattle.bit_pack.proofs.word.first_word.Goals as goal

pub returns-then-held-eq0-clause-word : goal.returns-then-held-eq0-clause-word
returns-then-held-eq0-clause-word c = no_word (bits_of c.args.bytes.now)

pub returns-clause-word : goal.returns-clause-word
returns-clause-word c =
    let bytes = c.args.bytes.now in
    let m = c.min.result in
    let l : length (take m bytes) ≡ m = length-take-le m bytes (omega arith) in
    subst (λ z. IsWord (bits_of bytes) (8 * z) (c.number_of.result * 2 ^ (64 - 8 * z) % 2 ^ 64)) (sym l)
    (word_of_number (bits_of bytes) (8 * m) c.number_of.result (omega arith) (omega (arith, length-bits_of bytes)) (c.number_of.ensures ∙ ap number (first_bytes bytes m (omega arith))))
