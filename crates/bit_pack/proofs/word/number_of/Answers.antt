use Rattle.std.proofs.Common.{◌≡◌, ℕ, ◌+◌, ◌*◌, ◌%◌, ◌^◌, ◌<◌, slice_index_or, sym, ◌∙◌, subst, arith, rules}
use Rattle.bit_pack.proofs.Words.{number_byte_more, number_byte_small}
use Rattle.bit_pack.proofs.word.number_of.Goals as goal

byte_added : (n x : ℕ) → n < 2 ^ 56 → n * 2 ^ 8 % 2 ^ 64 + x ≡ n * 256 + x
byte_added n x h = omega arith

pub overflow_add-number : goal.overflow_add-number
overflow_add-number c =
    let i = c.loop-byte.byte-index in
    let n = c.loop-byte.number in
    let x = slice_index_or c.args.bytes.now i 0 in
    let byte : x < 256 = search rules in
    let small : n < 2 ^ 56 = subst (λ z. z < 2 ^ 56) (sym c.loop-byte.invariant) (number_byte_small c.args.bytes.now i (omega arith) (omega arith)) in
    let fits : n * 2 ^ 8 % 2 ^ 64 + x < 2 ^ 64 = omega arith in
    search (rules, fits)

pub loop-byte-preserved : goal.loop-byte-preserved
loop-byte-preserved c =
    let i = c.loop-byte.byte-index in
    let n = c.loop-byte.number in
    let x = slice_index_or c.args.bytes.now i 0 in
    let byte : x < 256 = search rules in
    let small : n < 2 ^ 56 = subst (λ z. z < 2 ^ 56) (sym c.loop-byte.invariant) (number_byte_small c.args.bytes.now i (omega arith) (omega arith)) in
    byte_added n x small ∙ number_byte_more c.args.bytes.now i n c.loop-byte-test.true byte c.loop-byte.invariant
