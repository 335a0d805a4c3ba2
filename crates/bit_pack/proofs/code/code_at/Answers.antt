use Rattle.std.proofs.Common.{◌≡◌, ℕ, ◌+◌, ◌-◌, ◌*◌, ◌<◌, ◌≤◌, ◌^◌, List, length, take, drop, refl, arith}
use Rattle.std.proofs.Math.Nat.{pow-le-pow_right}
use Rattle.bit_pack.specs.Bits.{number, bits_of}
use Rattle.bit_pack.specs.Gamma.{BeginsAbove, HasNoCode}
use Rattle.bit_pack.specs.Reading.{IsNextOne}
use Rattle.bit_pack.proofs.Packing.{length-bits_of}
use Rattle.bit_pack.proofs.CodesRead.{no_code_left, no_code_cut, number_high, code_begins, code_long, ended_told, number_told}
use Rattle.bit_pack.proofs.code.code_at.Goals as goal

pub returns-in_default-clause-too_large : goal.returns-in_default-clause-too_large
returns-in_default-clause-too_large c = (λ e. absurd (cc), λ above. absurd (ended_told _ _ (no_code_left _ _ c.in_default.ensures) above))

pub returns-in_default-clause-ended : goal.returns-in_default-clause-ended
returns-in_default-clause-ended c = (λ e. no_code_left _ _ c.in_default.ensures, λ none. refl)

pub overflow_sub-bytes : goal.overflow_sub-bytes
overflow_sub-bytes c = omega (arith, c.in-Some.ensures.inside, length-bits_of c.args.bytes.now)

-- the zeros and the one are all that is left, or more is missing
cut : (bytes : List ℕ) (from at : ℕ) → IsNextOne (bits_of bytes) from at → 8 * length bytes - at ≤ at - from → HasNoCode (drop from (bits_of bytes))
cut bytes from at i short = no_code_cut (bits_of bytes) from at i (omega (arith, length-bits_of bytes, i.inside))

pub returns-then-bytes-one-clause-too_large : goal.returns-then-bytes-one-clause-too_large
returns-then-bytes-one-clause-too_large c = (λ e. absurd (cc), λ above. absurd (ended_told _ _ (cut _ _ _ c.in-Some.ensures c.if-bytes-one.true) above))

pub returns-then-bytes-one-clause-ended : goal.returns-then-bytes-one-clause-ended
returns-then-bytes-one-clause-ended c = (λ e. cut _ _ _ c.in-Some.ensures c.if-bytes-one.true, λ none. refl)

-- a whole code tells this number
whole : (bytes : List ℕ) (from at : ℕ) → IsNextOne (bits_of bytes) from at → at - from < 8 * length bytes - at → at + (at - from) < length (bits_of bytes)
whole bytes from at i long = omega (arith, length-bits_of bytes, i.inside)

above : (bytes : List ℕ) (from at most n : ℕ) → IsNextOne (bits_of bytes) from at → at - from < 8 * length bytes - at → n ≡ number (take (at - from + 1) (drop at (bits_of bytes))) → most < n → BeginsAbove (drop from (bits_of bytes)) most
above bytes from at most n i long told high = (n, drop (at + (at - from) + 1) (bits_of bytes), high, (code_begins (bits_of bytes) from at i (whole bytes from at i long) n told).is)

-- so many zeros are those of a large number
far_above : (bytes : List ℕ) (from at most : ℕ) → IsNextOne (bits_of bytes) from at → at - from < 8 * length bytes - at → 62 < at - from → most < 2 ^ 63 → BeginsAbove (drop from (bits_of bytes)) most
far_above bytes from at most i long many small =
    let n = number (take (at - from + 1) (drop at (bits_of bytes))) in
    let h : 2 ^ (at - from) ≤ n = number_high (bits_of bytes) from at i (whole bytes from at i long) n refl in
    let p : 2 ^ 63 ≤ 2 ^ (at - from) = pow-le-pow_right (omega arith) many in
    above bytes from at most n i long refl (omega arith)

pub returns-then-zeros-gt62-clause-too_large : goal.returns-then-zeros-gt62-clause-too_large
returns-then-zeros-gt62-clause-too_large c = (λ e. far_above _ _ _ _ c.in-Some.ensures c.if-bytes-one.false c.if-zeros-gt62.true c.requires.most, λ told. refl)

pub returns-then-zeros-gt62-clause-ended : goal.returns-then-zeros-gt62-clause-ended
returns-then-zeros-gt62-clause-ended c = (λ e. absurd (cc), λ none. absurd (ended_told _ _ none (far_above _ _ _ _ c.in-Some.ensures c.if-bytes-one.false c.if-zeros-gt62.true c.requires.most)))

pub returns-then-number-most-clause-too_large : goal.returns-then-number-most-clause-too_large
returns-then-number-most-clause-too_large c = (λ e. above _ _ _ _ _ c.in-Some.ensures c.if-bytes-one.false c.number_at-number.ensures c.if-number-most.true, λ told. refl)

pub returns-then-number-most-clause-ended : goal.returns-then-number-most-clause-ended
returns-then-number-most-clause-ended c = (λ e. absurd (cc), λ none. absurd (ended_told _ _ none (above _ _ _ _ _ c.in-Some.ensures c.if-bytes-one.false c.number_at-number.ensures c.if-number-most.true)))

pub returns-clause-code : goal.returns-clause-code
returns-clause-code c = code_begins _ _ _ c.in-Some.ensures (whole _ _ _ c.in-Some.ensures c.if-bytes-one.false) _ c.number_at-number.ensures

pub returns-clause-end : goal.returns-clause-end
returns-clause-end c =
    let long = whole _ _ _ c.in-Some.ensures c.if-bytes-one.false in
    let n = code_long (bits_of c.args.bytes.now) c.args.at c.in-Some.one c.in-Some.ensures long c.number_at-number.result c.number_at-number.ensures in
    (omega (arith, n, c.in-Some.ensures.order), omega (arith, long, length-bits_of c.args.bytes.now))

pub returns-clause-too_large : goal.returns-clause-too_large
returns-clause-too_large c =
    let b = code_begins _ _ _ c.in-Some.ensures (whole _ _ _ c.in-Some.ensures c.if-bytes-one.false) _ c.number_at-number.ensures in
    (λ e. absurd (cc), λ told. absurd (number_told _ _ _ _ c.if-number-most.false b told))

pub returns-clause-ended : goal.returns-clause-ended
returns-clause-ended c =
    let b = code_begins _ _ _ c.in-Some.ensures (whole _ _ _ c.in-Some.ensures c.if-bytes-one.false) _ c.number_at-number.ensures in
    (λ e. absurd (cc), λ none. absurd (none _ _ b.from_one b.is))
