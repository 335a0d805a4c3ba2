use Rattle.std.proofs.Common.{[], ap, length, sym, true≢false, ◌==◌, ◌∙◌}
use Rattle.name_text.proofs.Fronts.{whole_first, first_whole, one_first, nil_told}
use Rattle.name_text.proofs.item.split_item.Goals as goal

pub returns-clause-some : goal.returns-clause-some
returns-clause-some c = first_whole c.args.name.now c.in-Some.instance.now c.in-Some.port.now c.in-Some.rest.now c.in-Some.ensures.some (nil_told c.in-Some.rest.now (sym c.is_empty.ensures ∙ c.if-not-is_empty.false))

pub returns-in_default-clause-none : goal.returns-in_default-clause-none
returns-in_default-clause-none c = λ h. c.in_default.ensures.none h.0 h.1 [] (whole_first c.args.name.now h.0 h.1 h.2)

pub returns-then-not-is_empty-clause-none : goal.returns-then-not-is_empty-clause-none
returns-then-not-is_empty-clause-none c = λ h.
    let rest = (one_first c.args.name.now c.in-Some.instance.now c.in-Some.port.now c.in-Some.rest.now h.0 h.1 [] c.in-Some.ensures.some (whole_first c.args.name.now h.0 h.1 h.2)).2 in
    true≢false (sym (ap (λ z. length z == 0) rest) ∙ (sym c.is_empty.ensures ∙ c.if-not-is_empty.true))
