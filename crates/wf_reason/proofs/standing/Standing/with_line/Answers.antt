use Rattle.std.proofs.Common.{sym, subst}
use Rattle.wf_reason.specs.declared.turn.Turn.TheVariants.{Item as ItemTurn}
use Rattle.wf_reason.specs.ChainLines.{turn_behind, line_at}
use Rattle.wf_reason.specs.Standing.{IsOfRun, Stands, with_one}
use Rattle.wf_reason.proofs.Standings.{turn_of_item, turn_of_instance, wrong_on}
use Rattle.wf_reason.proofs.standing.Standing.with_line.Goals as goal

pub returns-in-AtItem-clause-stands : goal.returns-in-AtItem-clause-stands
returns-in-AtItem-clause-stands c = λ lines s.
    let v = c.args.run.now in
    let h = subst (λ z. Stands v z lines) c.in-AtItem.is s in
    subst (λ t. Stands v c.instance.result (with_one lines c.args.line (line_at t c.args.name.now))) (sym (turn_of_item v lines c.in-AtItem.item h.0)) (c.instance.ensures.stands lines h.0)

pub returns-in-AtInstance-clause-stands : goal.returns-in-AtInstance-clause-stands
returns-in-AtInstance-clause-stands c = λ lines s.
    let v = c.args.run.now in
    let h = subst (λ z. Stands v z lines) c.in-AtInstance.is s in
    let consumer = subst (IsOfRun v) c.in-AtInstance.is c.requires in
    subst (λ t. Stands v c.step.result (with_one lines c.args.line (line_at t c.args.name.now))) (sym (turn_of_instance v lines c.in-AtInstance.item c.in-AtInstance.by consumer h)) (c.step.ensures.stands lines h)

pub returns-in-Wrong-clause-stands : goal.returns-in-Wrong-clause-stands
returns-in-Wrong-clause-stands c = λ lines s. wrong_on c.args.run.now lines c.args.line c.in-Wrong.line _ (subst (λ z. Stands c.args.run.now z lines) c.in-Wrong.is s)

pub returns-in-Begun-clause-stands : goal.returns-in-Begun-clause-stands
returns-in-Begun-clause-stands c = λ lines s.
    let v = c.args.run.now in
    let none = subst (λ z. Stands v z lines) c.in-Begun.is s in
    subst (λ all. Stands v c.first.result (with_one all c.args.line (line_at (turn_behind ItemTurn all) c.args.name.now))) (sym none) c.first.ensures.stands

pub instance-requires : goal.instance-requires
instance-requires c = record { item = subst (IsOfRun c.args.run.now) c.in-AtItem.is c.requires }

pub step-requires : goal.step-requires
step-requires c = record { by = subst (IsOfRun c.args.run.now) c.in-AtInstance.is c.requires }

pub returns-in-Begun-clause-of_run : goal.returns-in-Begun-clause-of_run
returns-in-Begun-clause-of_run c = c.first.ensures.of_run

pub returns-in-AtItem-clause-of_run : goal.returns-in-AtItem-clause-of_run
returns-in-AtItem-clause-of_run c = c.instance.ensures.of_run

pub returns-in-AtInstance-clause-of_run : goal.returns-in-AtInstance-clause-of_run
returns-in-AtInstance-clause-of_run c = c.step.ensures.of_run

pub returns-in-Wrong-clause-of_run : goal.returns-in-Wrong-clause-of_run
returns-in-Wrong-clause-of_run c = tt
