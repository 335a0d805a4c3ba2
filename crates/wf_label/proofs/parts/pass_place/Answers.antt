use Rattle.std.proofs.Common.{◌<◌, length, subst}
use Rattle.std.specs.Option.{IfSome}
use Rattle.wf_model.specs.declared.numbers.ModNo.{ModNo}
use Rattle.label_model.specs.Reading.{IsPadding, IsPlaceLeft}
use Rattle.wf_label.specs.Parts.{IsPassed, IsNextLeft}
use Rattle.wf_label.proofs.Passes.{passed_then}
use Rattle.wf_label.proofs.parts.pass_place.Goals as goal

pub loop-next-preserved : goal.loop-next-preserved
loop-next-preserved c =
    let g = c.args.g.grammar.now.core in
    let place = IsPlaceLeft g c.loop-next.m.0 in
    let next = c.in-Some.next in
    let a = c.args.reader.now in
    let b = c.loop-next.reader in
    let d = c.pass_first.new.reader in record {
      in_range = subst (λ o. IfSome o (λ (m : ModNo). m.0 < length g.modules)) c.in-Some.is c.in_ok-next.ensures.in_range;
      passed = passed_then (IsPlaceLeft g g.start) place (IsPlaceLeft g next.0) a b d c.loop-next.invariant.passed (subst (λ o. IsPassed place (IsNextLeft g o) b d) c.in-Some.is c.in_ok-next.ensures.passed);
    }

pub returns-clause-passed : goal.returns-clause-passed
returns-clause-passed c =
    let g = c.args.g.grammar.now.core in
    let place = IsPlaceLeft g c.loop-next.m.0 in
    let a = c.args.reader.now in
    let b = c.loop-next.reader in
    let d = c.pass_first.new.reader in
    passed_then (IsPlaceLeft g g.start) place IsPadding a b d c.loop-next.invariant.passed (subst (λ o. IsPassed place (IsNextLeft g o) b d) c.in_default.is c.in_ok-next.ensures.passed)
