use Rattle.std.proofs.Common.{◌+◌, ◌*◌, ◌/◌, ◌-◌, ◌^◌, drop, refl, subst, arith}
use Rattle.std.proofs.lemmas.List.{drop-drop}
use Rattle.std.specs.Int.Count.{count_leading_zeros}
use Rattle.bit_pack.specs.Bits.{bits_of}
use Rattle.bit_pack.specs.Gamma.{Begins}
use Rattle.bit_pack.proofs.Bytes.{length-left}
use Rattle.bit_pack.proofs.CodesRead.{number_told}
use Rattle.bit_pack.proofs.Words.{held_code, held_long}
use Rattle.bit_pack.proofs.word.next_code.Goals as goal

pub returns-then-number-most-clause-too_large : goal.returns-then-number-most-clause-too_large
returns-then-number-most-clause-too_large c =
    let b = held_code (drop c.args.at (bits_of c.args.bytes.now)) c.args.held c.args.word c.requires.word (count_leading_zeros 64 c.args.word) refl (omega arith) in
    (λ e. (_, _, c.if-number-most.true, b.is), λ told. refl)

pub returns-then-number-most-clause-ended : goal.returns-then-number-most-clause-ended
returns-then-number-most-clause-ended c =
    let b = held_code (drop c.args.at (bits_of c.args.bytes.now)) c.args.held c.args.word c.requires.word (count_leading_zeros 64 c.args.word) refl (omega arith) in
    (λ e. absurd (cc), λ none. absurd (none _ _ b.from_one b.is))

pub returns-clause-code : goal.returns-clause-code
returns-clause-code c =
    let bits = bits_of c.args.bytes.now in
    let count = 2 * count_leading_zeros 64 c.args.word + 1 in
    let b = held_code (drop c.args.at bits) c.args.held c.args.word c.requires.word (count_leading_zeros 64 c.args.word) refl (omega arith) in
    subst (λ z. Begins (drop c.args.at bits) (c.args.word / 2 ^ (64 - count)) z) (drop-drop count c.args.at bits) b

pub returns-clause-end : goal.returns-clause-end
returns-clause-end c =
    let long = held_long (drop c.args.at (bits_of c.args.bytes.now)) c.args.held c.args.word c.requires.word (count_leading_zeros 64 c.args.word) refl (omega arith) in
    (omega (arith, long), omega (arith, c.requires.word.inside, length-left c.args.bytes.now c.args.at))

pub returns-clause-too_large : goal.returns-clause-too_large
returns-clause-too_large c =
    let b = held_code (drop c.args.at (bits_of c.args.bytes.now)) c.args.held c.args.word c.requires.word (count_leading_zeros 64 c.args.word) refl (omega arith) in
    (λ e. absurd (cc), λ told. absurd (number_told _ _ _ _ c.if-number-most.false b told))

pub returns-clause-ended : goal.returns-clause-ended
returns-clause-ended c =
    let b = held_code (drop c.args.at (bits_of c.args.bytes.now)) c.args.held c.args.word c.requires.word (count_leading_zeros 64 c.args.word) refl (omega arith) in
    (λ e. absurd (cc), λ none. absurd (none _ _ b.from_one b.is))
