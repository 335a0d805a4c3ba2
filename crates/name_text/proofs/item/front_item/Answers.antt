use Rattle.std.proofs.Common.{◌∷◌, ap, sym, ◌∙◌}
use Rattle.name_text.proofs.Fronts.{item_first, no_end, no_dot_first, instance_sized, port_sized}
use Rattle.name_text.proofs.item.front_item.Goals as goal

pub returns-clause-some : goal.returns-clause-some
returns-clause-some c = item_first c.args.bytes.now c.names_first.result.0.now c.names_first.result.1.now c.in-Some.after.now c.names_first-2.result.0.now c.names_first-2.result.1.now c.names_first.ensures.whole c.names_first.ensures.names (c.in-Some.ensures.cases.0 ∙ ap (λ b. b ∷ c.in-Some.after.now) c.if-next-ne46.false) c.names_first-2.ensures.whole c.names_first-2.ensures.names c.names_first-2.ensures.next (sym c.is_sized.ensures ∙ c.if-not-is_sized.false) (sym c.is_sized-2.ensures ∙ c.if-not-is_sized-2.false)

pub returns-in_default-clause-none : goal.returns-in_default-clause-none
returns-in_default-clause-none c = no_end c.args.bytes.now c.names_first.result.0.now c.names_first.result.1.now c.names_first.ensures.whole c.names_first.ensures.names c.names_first.ensures.next c.in_default.ensures.cases

pub returns-then-next-ne46-clause-none : goal.returns-then-next-ne46-clause-none
returns-then-next-ne46-clause-none c = no_dot_first c.args.bytes.now c.names_first.result.0.now c.names_first.result.1.now c.names_first.ensures.whole c.names_first.ensures.names c.names_first.ensures.next c.in-Some.next.now c.in-Some.after.now c.in-Some.ensures.cases.0 c.if-next-ne46.true

pub returns-then-not-is_sized-clause-none : goal.returns-then-not-is_sized-clause-none
returns-then-not-is_sized-clause-none c = instance_sized c.args.bytes.now c.names_first.result.0.now c.names_first.result.1.now c.names_first.ensures.whole c.names_first.ensures.names c.names_first.ensures.next (sym c.is_sized.ensures ∙ c.if-not-is_sized.true)

pub returns-then-not-is_sized-2-clause-none : goal.returns-then-not-is_sized-2-clause-none
returns-then-not-is_sized-2-clause-none c = port_sized c.args.bytes.now c.names_first.result.0.now c.names_first.result.1.now c.names_first.ensures.whole c.names_first.ensures.names c.names_first.ensures.next c.in-Some.after.now c.names_first-2.result.0.now c.names_first-2.result.1.now (c.in-Some.ensures.cases.0 ∙ ap (λ b. b ∷ c.in-Some.after.now) c.if-next-ne46.false) c.names_first-2.ensures.whole c.names_first-2.ensures.names c.names_first-2.ensures.next (sym c.is_sized-2.ensures ∙ c.if-not-is_sized-2.true)
