use Rattle.std.proofs.Common.{◌∙◌, sym, refl, inl, inr}
use Rattle.wf_intake.proofs.Stands.{expand_early, expand_ready, expand_same, expand_other}
use Rattle.wf_intake.proofs.standing.expand_standing.Goals as goal
use Rattle.wf_intake.proofs.standing.expand_standing.Goals.{else-by-production-via-then-by-production+else-are_children, else-by-production-via-else-by-production}

pub returns-in_default-clause-stands : goal.returns-in_default-clause-stands
returns-in_default-clause-stands g c = λ events is fits. expand_early (g.R.Grows.grammar c.args.run.now) events c.args.reported.now c.args.instance.now c.args.production c.args.names.now (sym c.in_default.is ∙ c.find.ensures events is)

pub returns-in_default-expansion-clause-stands : goal.returns-in_default-expansion-clause-stands
returns-in_default-expansion-clause-stands g c = λ events is fits. expand_ready (g.R.Grows.grammar c.args.run.now) events c.args.reported.now c.args.instance.now c.args.production c.args.names.now c.in-Some.number (sym c.in-Some.is ∙ c.find.ensures events is) (sym c.expansion.ensures ∙ c.in_default-expansion.is)

pub returns-in_default-expansion-clause-number : goal.returns-in_default-expansion-clause-number
returns-in_default-expansion-clause-number g c = λ events is. sym c.in-Some.is ∙ c.find.ensures events is

pub returns-then-are_children-clause-stands : goal.returns-then-are_children-clause-stands
returns-then-are_children-clause-stands g c = λ events is fits. expand_same (g.R.Grows.grammar c.args.run.now) events c.args.reported.now c.args.instance.now c.args.production c.args.names.now c.in-Some.number (sym c.in-Some.is ∙ c.find.ensures events is)
    c.in-Some-expansion.by (sym c.expansion.ensures ∙ c.in-Some-expansion.is) fits c.if-by-production.true (λ x e. sym c.if-are_children.true ∙ c.are_children.ensures events is c.args.instance.now x (sym (c.find.ensures events is) ∙ c.in-Some.is) e)

pub returns-clause-stands : goal.returns-clause-stands
returns-clause-stands g c = λ events is fits. expand_other (g.R.Grows.grammar c.args.run.now) events c.args.reported.now c.args.instance.now c.args.production c.args.names.now c.in-Some.number (sym c.in-Some.is ∙ c.find.ensures events is)
    c.in-Some-expansion.by (sym c.expansion.ensures ∙ c.in-Some-expansion.is) fits c.in-Some-expansion.by.line refl
    (elim c.else-by-production.branch [
      | else-by-production-via-then-by-production+else-are_children w ↦ inr (λ x e. sym w.if-are_children.false ∙ w.are_children.ensures events is c.args.instance.now x (sym (c.find.ensures events is) ∙ c.in-Some.is) e)
      | else-by-production-via-else-by-production w ↦ inl w.if-by-production.false
    ])
