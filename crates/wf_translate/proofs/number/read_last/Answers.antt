use Rattle.std.proofs.Common.{refl, sym, ◌∙◌, true≢false}
use Rattle.wf_translate.proofs.PartsRead.{last_number, no_last_number, more_behind}
use Rattle.wf_translate.proofs.number.read_last.Goals as goal

pub returns-in_err-number-clause-malformed : goal.returns-in_err-number-clause-malformed
returns-in_err-number-clause-malformed c = λ _. no_last_number c.args.count c.args.reader.now.left (c.in_err-number.ensures.malformed refl)

pub returns-then-padding-clause-read : goal.returns-then-padding-clause-read
returns-then-padding-clause-read c =
    last_number c.args.count c.in_ok-number.number c.args.reader.now.left c.read_number.new.reader.left c.in_ok-number.ensures.below c.in_ok-number.ensures.read (c.padding.ensures.0 c.if-padding.true)

pub returns-else-padding-clause-malformed : goal.returns-else-padding-clause-malformed
returns-else-padding-clause-malformed c = λ _.
    more_behind c.args.count c.in_ok-number.number c.args.reader.now.left c.read_number.new.reader.left c.in_ok-number.ensures.read (λ p. true≢false (sym (c.padding.ensures.1 p) ∙ c.if-padding.false))
