use Rattle.std.proofs.Common.{◌∙◌, refl, sym}
use Rattle.wf_events.proofs.Digits.{first_digit}
use Rattle.wf_events.proofs.number.cut_number.Goals as goal

pub returns-then-first-eq0-clause-whole : goal.returns-then-first-eq0-clause-whole
returns-then-first-eq0-clause-whole c =
    let first = c.in_ok-first.ensures in
    first_digit c.args.bytes.now _ c.in_ok-first.first 0 c.in-len1-up.len_at_least first.0 first.1 refl (sym c.if-first-eq0.true)

pub returns-clause-whole : goal.returns-clause-whole
returns-clause-whole c =
    let first = c.in_ok-first.ensures in
    first_digit c.args.bytes.now _ c.in_ok-first.first c.in_ok-first.first c.in-len1-up.len_at_least first.0 first.1 refl refl ∙ c.longest.ensures.whole
