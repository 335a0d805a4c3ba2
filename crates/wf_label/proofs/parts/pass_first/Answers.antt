use Rattle.std.proofs.lemmas.Result.{IfOk-weaker}
use Rattle.label_model.specs.Reading.{IsPlaceLeft, IsPartLeft}
use Rattle.wf_label.specs.Parts.{IsPassed, IsNextLeft}
use Rattle.wf_label.proofs.Passes.{passed_then}
use Rattle.wf_label.proofs.parts.pass_first.Goals as goal

pub returns-clause-passed : goal.returns-clause-passed
returns-clause-passed c =
    let g = c.args.g.grammar.now.core in
    let place = IsPlaceLeft g c.args.m.0 in
    let part = IsPartLeft g c.in_ok-k.k.0 in
    let a = c.args.reader.now in
    let b = c.pass_chain.new.reader in
    let d = c.pass_part.new.reader in
    IfOk-weaker c.pass_part.result (λ o. IsPassed part (IsNextLeft g o) b d) (λ o. IsPassed place (IsNextLeft g o) a d)
    (λ o h. passed_then place part (IsNextLeft g o) a b d c.in_ok-k.ensures.passed h) c.pass_part.ensures.passed
