use Rattle.std.proofs.Common.{true, take, sym, subst, arith}
use Rattle.bit_pack.proofs.Packing.{length-bits_of}
use Rattle.bit_pack.specs.Bits.{bits_of}
use Rattle.label_model.specs.Reading.{IsLabelLeft, IsPlaceLeft, IsPartLeft}
use Rattle.wf_label.specs.Parts.{IsPassed, at_front}
use Rattle.wf_label.specs.Checkpoints.{IsLeftAt, GoesOn}
use Rattle.wf_label.proofs.Shared.{passed_on, goes_on_at, at_inside}
use Rattle.wf_label.proofs.checker.Checker.pass_to_part.Goals as goal
use Rattle.wf_label.proofs.checker.Checker.pass_to_part.Goals.{After-at}

-- the label was passed up to the part
passed : (c : After-at) → IsPassed (IsLabelLeft c.args.self.now) (IsPartLeft c.args.self.now c.in_ok-k.k.0) (at_front c.args.short.bytes.now) c.pass_chain.new.reader
passed c =
    let g = c.args.self.now in
    let m = c.args.m.0 in
    let front = at_front c.args.short.bytes.now in
    let place = subst (λ x. IsPassed (IsLabelLeft g) (IsLeftAt g x m) front c.args.reader.now) c.if-chained.false c.requires.passed in
    passed_on g c.self.inside.g.grammar.now.core (IsLabelLeft g) (λ z. IsPlaceLeft z m) (λ z. IsPartLeft z c.in_ok-k.k.0) front c.args.reader.now c.pass_chain.new.reader c.self.view_is place c.in_ok-k.ensures.passed

pub keep-requires-clause-inside : goal.keep-requires-clause-inside
keep-requires-clause-inside c =
    let bytes = c.args.short.bytes.now in
    omega (arith, c.at.ensures, length-bits_of bytes, at_inside c.args.self.now (bits_of bytes) true c.in_ok-k.k c.pass_chain.new.reader (passed c))

pub keep-requires-clause-goes_on : goal.keep-requires-clause-goes_on
keep-requires-clause-goes_on c =
    let g = c.args.self.now in
    let bits = bits_of c.args.short.bytes.now in
    subst (λ n. GoesOn g (take n bits) true c.in_ok-k.k.0) (sym c.at.ensures) (goes_on_at g bits true c.in_ok-k.k c.pass_chain.new.reader (passed c))

pub returns-clause-passed : goal.returns-clause-passed
returns-clause-passed c = passed ((goal.at.returns-clause-passed c).After-at)
