use Rattle.std.proofs.Common.{◌*◌, ◌<◌, length, take, sym, ap, ◌∙◌, arith}
use Rattle.std.proofs.Math.Seq.{take-length}
use Rattle.std.proofs.lemmas.List.Elements.{All-from_get_or}
use Rattle.bit_pack.specs.Bits.{bits_of, number}
use Rattle.bit_pack.proofs.Packing.{length-bits_of}
use Rattle.bit_pack.proofs.Words.{word_of_number}
use Rattle.wf_label.proofs.short.ShortBytes.of.Goals as goal

pub invariant_of-result : goal.invariant_of-result
invariant_of-result c =
    let bytes = c.args.bytes.now in
    let long = length-bits_of bytes in
    let all = ap (λ n. take n (bits_of bytes)) (sym long) ∙ take-length (bits_of bytes) in
    let few = c.if-count-gt8.false in
    record { are = All-from_get_or (λ b. b < 256) bytes 0 (λ i h. let fits = c.type_inv.bytes i in omega arith); held = word_of_number (bits_of bytes) (8 * length bytes) c.number_of.result (omega arith) (omega arith) (c.number_of.ensures ∙ ap number (sym all)) }
