use Rattle.std.proofs.Common.{◌≡◌, ◌+◌, ◌-◌, ◌*◌, ◌<◌, ◌/◌, ◌^◌, length, take, drop, subst, ap, sym, ◌∙◌, replicate, false, arith, rules}
use Rattle.std.proofs.lemmas.List.{length-drop, length-take, take_rest}
use Rattle.bit_pack.specs.Bits.{bits_of}
use Rattle.bit_pack.specs.Reading.{IsNextOne}
use Rattle.bit_pack.proofs.Packing.{length-bits_of}
use Rattle.bit_pack.proofs.Bytes.{no_bit, one_in_byte, one_in_later_byte, zeros_to_the_end}
use Rattle.bit_pack.proofs.scan.next_one.Goals as goal

pub returns-then-first-bytes : goal.returns-then-first-bytes
returns-then-first-bytes c =
    let none : 8 * length c.args.bytes.now - c.args.from ≡ 0 = omega (arith, c.if-first-bytes.true) in
    no_bit c.args.bytes.now c.args.from (omega (arith, c.if-first-bytes.true)) ∙ sym (ap (λ z. replicate z false) none)

pub returns-then-rest-ne0 : goal.returns-then-rest-ne0
returns-then-rest-ne0 c = one_in_byte c.args.bytes.now c.args.from (omega (arith, c.requires.inside, c.if-first-bytes.false)) c.if-rest-ne0.true

pub overflow_add-result-in-Some-2 : goal.overflow_add-result-in-Some-2
overflow_add-result-in-Some-2 c =
    let rest = take (length c.args.bytes.now - (c.args.from / 8 + 1)) (drop (c.args.from / 8 + 1) c.args.bytes.now) in
    let few : 8 * (c.args.from / 8 + 1) + c.in-Some.zeros < 2 ^ 64 =
    omega (arith, c.in-Some.ensures.inside, length-bits_of rest, length-take (length c.args.bytes.now - (c.args.from / 8 + 1)) (drop (c.args.from / 8 + 1) c.args.bytes.now), length-drop (c.args.from / 8 + 1) c.args.bytes.now, c.requires.few) in
    search (rules, few)

pub returns-in-Some : goal.returns-in-Some
returns-in-Some c =
    one_in_later_byte c.args.bytes.now c.args.from (omega (arith, c.requires.inside, c.if-first-bytes.false)) c.in-Some.zeros (omega (arith, c.if-rest-ne0.false))
    (subst (λ z. IsNextOne (bits_of z) 0 c.in-Some.zeros) (take_rest c.args.bytes.now (c.args.from / 8 + 1)) c.in-Some.ensures)

pub returns-in-None : goal.returns-in-None
returns-in-None c =
    zeros_to_the_end c.args.bytes.now c.args.from (omega (arith, c.requires.inside, c.if-first-bytes.false)) (omega (arith, c.if-rest-ne0.false))
    (subst (λ z. bits_of z ≡ replicate (8 * length z) false) (take_rest c.args.bytes.now (c.args.from / 8 + 1)) c.in-None.ensures)
