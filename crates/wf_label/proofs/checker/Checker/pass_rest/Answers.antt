use Rattle.std.proofs.Common.{false, sym, subst, take, arith}
use Rattle.bit_pack.specs.Bits.{bits_of}
use Rattle.bit_pack.proofs.Packing.{length-bits_of}
use Rattle.label_model.specs.Reading.{IsLabelLeft, IsPlaceLeft}
use Rattle.wf_label.specs.Parts.{IsPassed, IsNextLeft, at_front}
use Rattle.wf_label.specs.Checkpoints.{GoesOn}
use Rattle.wf_label.proofs.Shared.{goes_on_at, at_inside}
use Rattle.wf_label.proofs.checker.Checker.pass_rest.Goals as goal
use Rattle.wf_label.proofs.checker.Checker.pass_rest.Goals.{After-at}

-- the label was passed up to the next place
passed : (c : After-at) → IsPassed (IsLabelLeft c.loop-next.self) (IsPlaceLeft c.loop-next.self c.in-Some.m.0) (at_front c.args.short.bytes.now) c.loop-next.reader
passed c =
    let g = c.loop-next.self in
    subst (λ o. IsPassed (IsLabelLeft g) (IsNextLeft g o) (at_front c.args.short.bytes.now) c.loop-next.reader) c.in-Some.is c.loop-next.invariant.passed

pub keep-requires-clause-inside : goal.keep-requires-clause-inside
keep-requires-clause-inside c =
    let bytes = c.args.short.bytes.now in
    omega (arith, c.at.ensures, length-bits_of bytes, at_inside c.loop-next.self (bits_of bytes) false c.in-Some.m c.loop-next.reader (passed c))

pub keep-requires-clause-goes_on : goal.keep-requires-clause-goes_on
keep-requires-clause-goes_on c =
    let g = c.loop-next.self in
    let bits = bits_of c.args.short.bytes.now in
    subst (λ n. GoesOn g (take n bits) false c.in-Some.m.0) (sym c.at.ensures) (goes_on_at g bits false c.in-Some.m c.loop-next.reader (passed c))
