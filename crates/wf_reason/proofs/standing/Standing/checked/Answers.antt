use Rattle.std.proofs.Common.{subst}
use Rattle.wf_reason.specs.Standing.{IsOfRun, HasSteps, Stands}
use Rattle.wf_reason.proofs.Standings.{none_said, one_alone, at_instance, stepped_on, said_wrong}
use Rattle.wf_reason.proofs.standing.Standing.checked.Goals as goal

pub returns-in-Begun : goal.returns-in-Begun
returns-in-Begun c = λ lines s e. none_said c.args.run.now lines c.args.last (subst (λ z. Stands c.args.run.now z lines) c.in-Begun.is s) e

pub returns-then-stepped : goal.returns-then-stepped
returns-then-stepped c = λ lines s e.
    let h = subst (λ z. Stands c.args.run.now z lines) c.in-AtItem.is s in
    stepped_on c.args.run.now lines c.in-AtItem.item h.0 (subst (λ b. HasSteps b lines) c.if-stepped.true h.1)

pub returns-else-stepped : goal.returns-else-stepped
returns-else-stepped c = λ lines s e.
    let h = subst (λ z. Stands c.args.run.now z lines) c.in-AtItem.is s in
    one_alone c.args.run.now lines c.args.last c.in-AtItem.item e h.0 (subst (λ b. HasSteps b lines) c.if-stepped.false h.1)

pub returns-in-AtInstance : goal.returns-in-AtInstance
returns-in-AtInstance c = λ lines s e.
    at_instance c.args.run.now lines c.args.last c.in-AtInstance.item c.in-AtInstance.by e (subst (IsOfRun c.args.run.now) c.in-AtInstance.is c.requires) (subst (λ z. Stands c.args.run.now z lines) c.in-AtInstance.is s)

pub returns-in-Wrong : goal.returns-in-Wrong
returns-in-Wrong c = λ lines s e. said_wrong c.args.run.now lines c.in-Wrong.line (subst (λ z. Stands c.args.run.now z lines) c.in-Wrong.is s)
