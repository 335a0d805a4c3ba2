use Rattle.std.proofs.Common.{◌∙◌}
use Rattle.std.proofs.lemmas.Result.{IfOk-weaker}
use Rattle.label_model.specs.Reading.{IsLabelLeft, IsPartLeft}
use Rattle.wf_label.specs.Parts.{IsPassed, IsNextLeft, at_front}
use Rattle.wf_label.proofs.Shared.{passed_on}
use Rattle.wf_label.proofs.checker.Checker.pass_next.Goals as goal

pub returns-clause-passed : goal.returns-clause-passed
returns-clause-passed c =
    let g = c.args.self.now in
    let k = c.self.inside.g.grammar.now.core in
    let m = c.in_ok-k.k.0 in
    let front = at_front c.args.short.bytes.now in
    let a = c.pass_to_part.new.reader in
    let b = c.pass_part.new.reader in
    IfOk-weaker c.pass_part.result (λ o. IsPassed (IsPartLeft k m) (IsNextLeft k o) a b) (λ o. IsPassed (IsLabelLeft g) (IsNextLeft g o) front b)
    (λ o h. passed_on g k (IsLabelLeft g) (λ z. IsPartLeft z m) (λ z. IsNextLeft z o) front a b (c.self.view_is ∙ c.in_ok-k.ensures.same) c.in_ok-k.ensures.passed h) c.pass_part.ensures.passed
