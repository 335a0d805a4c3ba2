use Rattle.std.proofs.Common.{◌≡◌, ◌∙◌, sym, subst}
use Rattle.std.proofs.lemmas.List.{take_all}
use Rattle.wf_model.specs.Lists.{IsIn}
use Rattle.wf_check.proofs.UnitRules.{no_rule, holds_more}
use Rattle.wf_check.proofs.UnitRoutes.{first_at}
use Rattle.wf_check.proofs.unit.turns.first_turn.Goals.{else-from-via-then-from+else-from-to, else-from-via-else-from}
use Rattle.wf_check.proofs.unit.turns.first_turn.Goals as goal

pub returns-then-from-to : goal.returns-then-from-to
returns-then-from-to c =
    first_at c.args.units.now c.requires.order c.loop-u.u-index c.args.from c.args.to no_rule c.loop-u-test.true c.loop-u.invariant
    (sym c.from.ensures ∙ c.if-from.true) (sym c.from-then-from.ensures ∙ c.if-from-to.true)

pub loop-u-preserved : goal.loop-u-preserved
loop-u-preserved c = holds_more (λ u. u.head.0 ≡ c.args.from → u.target.0 ≡ c.args.to → ⊥) c.loop-u.u-index c.args.units.now no_rule c.loop-u-test.true c.loop-u.invariant
    (elim c.else-from.branch [
      | else-from-via-then-from+else-from-to w ↦ λ h t. w.if-from-to.false (w.from-then-from.ensures ∙ t)
      | else-from-via-else-from w ↦ λ h t. w.if-from.false (c.from.ensures ∙ h)
    ])

pub unreachable-requires : goal.unreachable-requires
unreachable-requires c =
    let t = c.requires.some.1 in
    c.loop-u.invariant t.0 (subst (IsIn t.0) (sym (take_all c.loop-u.u-index c.args.units.now c.loop-u-test.false)) t.1) t.3 t.4
