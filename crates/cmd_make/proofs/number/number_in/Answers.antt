use Rattle.std.proofs.Common.{◌∙◌, ap, sym}
use Rattle.cmd_make.specs.Words.{is_number}
use Rattle.cmd_make.proofs.Numbers.{number_too_long}
use Rattle.cmd_make.proofs.number.number_in.Goals as goal

pub returns-in_default-clause-number : goal.returns-in_default-clause-number
returns-in_default-clause-number c =
    number_too_long c.args.most c.args.word.now c.in_default.field-0 (ap is_number (sym c.as_bytes.ensures.value) ∙ sym c.is_number.ensures ∙ c.if-not-is_number.false) c.ranges.most.fits c.in_default.ensures.value
