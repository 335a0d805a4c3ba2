use Rattle.std.proofs.Common.{◌++◌, ap, sym, ◌∙◌}
use Rattle.name_text.proofs.Fronts.{item_cut, of_item}
use Rattle.name_text.proofs.item.cut_item.Goals as goal

pub returns-clause-whole : goal.returns-clause-whole
returns-clause-whole c = let h = c.in-Some.ensures.some in h.is ∙ ap (λ z. z ++ c.in-Some.rest.now) (sym (item_cut _ _ _ _ h))

pub returns-clause-item : goal.returns-clause-item
returns-clause-item c = let h = c.in-Some.ensures.some in (c.in-Some.field-0-0.now, c.in-Some.field-0-1.now, (item_cut _ _ _ _ h, h.instance_short, h.port_short))

pub returns-in_default-clause-none : goal.returns-in_default-clause-none
returns-in_default-clause-none c = λ item rest w h ends. c.in_default.ensures.none h.0 h.1 rest (of_item c.args.bytes.now item rest w h ends)
