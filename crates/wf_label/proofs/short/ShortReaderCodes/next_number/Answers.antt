use Rattle.std.proofs.Common.{◌≡◌, ◌+◌, ◌-◌, ◌*◌, ◌/◌, ◌^◌, ◌≤◌, length, drop, refl, subst, arith}
use Rattle.std.specs.Int.Count.{count_leading_zeros}
use Rattle.bit_pack.specs.Bits.{bits_of}
use Rattle.bit_pack.specs.Gamma.{Begins}
use Rattle.bit_pack.specs.Reading.{Reading}
use Rattle.bit_pack.proofs.Bytes.{length-left}
use Rattle.bit_pack.proofs.Words.{held_code, held_long}
use Rattle.wf_label.specs.Parts.{HasNoNumber}
use Rattle.wf_label.proofs.ShortWords.{no_number_held, no_number_above, code_read}
use Rattle.wf_label.proofs.short.ShortReaderCodes.next_number.Goals as goal

pub returns-then-self-long-clause-malformed : goal.returns-then-self-long-clause-malformed
returns-then-self-long-clause-malformed c = λ _.
    let bits = drop c.self.inside.at (bits_of c.self.inside.bytes.now) in
    let all : c.self.inside.held ≡ length bits = omega (arith, c.self.invariant.all, length-left c.self.inside.bytes.now c.self.inside.at) in
    subst (λ (r : Reading). HasNoNumber c.args.count r.left) c.self.view_is
    (no_number_held bits c.self.inside.held c.self.inside.word c.self.invariant.next all (count_leading_zeros 64 c.self.inside.word) refl c.if-self-long.true c.args.count)

pub returns-then-number-count-clause-malformed : goal.returns-then-number-count-clause-malformed
returns-then-number-count-clause-malformed c = λ _.
    let bits = drop c.self.inside.at (bits_of c.self.inside.bytes.now) in
    let z = count_leading_zeros 64 c.self.inside.word in
    let b = held_code bits c.self.inside.held c.self.inside.word c.self.invariant.next z refl (omega (arith, c.if-self-long.false)) in
    subst (λ (r : Reading). HasNoNumber c.args.count r.left) c.self.view_is
    (no_number_above c.args.count (c.self.inside.word / 2 ^ (64 - (2 * z + 1))) bits (drop (2 * z + 1) bits) c.if-number-count.true b)

pub overflow_sub-result : goal.overflow_sub-result
overflow_sub-result c =
    let bits = drop c.self.inside.at (bits_of c.self.inside.bytes.now) in
    let z = count_leading_zeros 64 c.self.inside.word in
    (held_code bits c.self.inside.held c.self.inside.word c.self.invariant.next z refl (omega (arith, c.if-self-long.false))).from_one

pub returns-clause-below : goal.returns-clause-below
returns-clause-below c =
    let bits = drop c.self.inside.at (bits_of c.self.inside.bytes.now) in
    let z = count_leading_zeros 64 c.self.inside.word in
    let some = (held_code bits c.self.inside.held c.self.inside.word c.self.invariant.next z refl (omega (arith, c.if-self-long.false))).from_one in
    omega (arith, some, c.if-number-count.false)

pub returns-clause-read : goal.returns-clause-read
returns-clause-read c =
    let bits = drop c.self.inside.at (bits_of c.self.inside.bytes.now) in
    let word = c.self.inside.word in
    let z = count_leading_zeros 64 word in
    let n = word / 2 ^ (64 - (2 * z + 1)) in
    let whole : 2 * z + 1 ≤ c.self.inside.held = omega (arith, c.if-self-long.false) in
    let code = held_code bits c.self.inside.held word c.self.invariant.next z refl whole in
    let long = held_long bits c.self.inside.held word c.self.invariant.next z refl whole in
    code_read n (2 * z + 1) c.args.self.now c.go_on.new.self (subst (λ (r : Reading). Begins r.left n (drop (2 * z + 1) r.left)) c.self.view_is code) long c.go_on.ensures.left c.go_on.ensures.at
