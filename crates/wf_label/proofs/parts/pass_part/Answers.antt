use Rattle.std.proofs.Common.{◌∷◌, ap, refl, subst, ◌∙◌}
use Rattle.label_model.specs.Reading.{IsPadding, IsPlaceLeft, IsPartLeft}
use Rattle.wf_label.specs.Parts.{IsStepByLeft, IsEndingByLeft}
use Rattle.wf_label.proofs.Passes.{passed_then}
use Rattle.wf_label.proofs.PartsLeft.{no_alternative, alternative_passed}
use Rattle.wf_label.proofs.parts.pass_part.Goals as goal

pub returns-in_err-p-clause-malformed : goal.returns-in_err-p-clause-malformed
returns-in_err-p-clause-malformed b c = λ _ h.
    let g = c.args.g.grammar.now.core in
    let k = c.args.k.0 in
    no_alternative g k c.in_ok-is_step.is_step (b.R.Codes.reading c.next_bit.new.self).left (c.in_err-p.ensures.malformed refl) (subst (IsPartLeft g k) c.in_ok-is_step.ensures.ok h)

pub returns-then-is_step-clause-passed : goal.returns-then-is_step-clause-passed
returns-then-is_step-clause-passed b c =
    let g = c.args.g.grammar.now.core in
    let k = c.args.k.0 in
    let p = c.in_ok-p.p.0 in
    let is = c.in_ok-is_step.ensures.ok ∙ ap (λ x. x ∷ (b.R.Codes.reading c.next_bit.new.self).left) c.if-is_step.true in
    passed_then (IsPartLeft g k) (IsStepByLeft g p) (IsPlaceLeft g c.in_ok-m.m.0) (b.R.Codes.reading c.args.reader.now) (b.R.Codes.reading c.read_alternative.new.reader) (b.R.Codes.reading c.pass_position.new.reader)
    (alternative_passed g k p _ (b.R.Codes.reading c.args.reader.now) (b.R.Codes.reading c.next_bit.new.self) (b.R.Codes.reading c.read_alternative.new.reader) c.in_ok-p.ensures.production is c.in_ok-is_step.ensures.at c.in_ok-p.ensures.read) c.in_ok-m.ensures.passed

pub returns-clause-passed : goal.returns-clause-passed
returns-clause-passed b c =
    let g = c.args.g.grammar.now.core in
    let k = c.args.k.0 in
    let p = c.in_ok-p.p.0 in
    let is = c.in_ok-is_step.ensures.ok ∙ ap (λ x. x ∷ (b.R.Codes.reading c.next_bit.new.self).left) c.if-is_step.false in
    passed_then (IsPartLeft g k) (IsEndingByLeft g p) IsPadding (b.R.Codes.reading c.args.reader.now) (b.R.Codes.reading c.read_alternative.new.reader) (b.R.Codes.reading c.pass_edge.new.reader)
    (alternative_passed g k p _ (b.R.Codes.reading c.args.reader.now) (b.R.Codes.reading c.next_bit.new.self) (b.R.Codes.reading c.read_alternative.new.reader) c.in_ok-p.ensures.production is c.in_ok-is_step.ensures.at c.in_ok-p.ensures.read) c.in_ok-pass_edge.ensures.passed
