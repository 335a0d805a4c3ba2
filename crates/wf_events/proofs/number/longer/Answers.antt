use Rattle.wf_events.proofs.Digits.{digit_more}
use Rattle.wf_events.proofs.number.longer.Goals as goal

pub returns-clause-digits : goal.returns-clause-digits
returns-clause-digits c =
    let last = c.in_ok-last.ensures in
    digit_more c.args.number c.in_ok-last.last c.in_ok-checked_mul.field-0 c.args.b c.checked_add.result c.requires last.0 last.1 c.in_ok-checked_mul.ensures.1 c.checked_add.ensures
