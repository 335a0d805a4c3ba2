use Rattle.std.proofs.Common.{refl}
use Rattle.wf_reason.specs.ChainLines.{ItemLine}
use Rattle.wf_reason.proofs.Standings.{not_item, step_lead, step_longer}
use Rattle.wf_reason.proofs.standing.Standing.step.Goals as goal

pub returns-in-Some-clause-stands : goal.returns-in-Some-clause-stands
returns-in-Some-clause-stands c = λ lines lead. (
  step_lead c.args.run.now lines c.args.line c.args.first c.in-Some.item c.args.by c.args.name.now lead c.in-Some.ensures.leads c.in-Some.ensures.named,
  step_longer c.args.run.now lines c.args.line (ItemLine c.args.name.now) c.args.first c.args.by lead,
)

pub returns-in-None-clause-stands : goal.returns-in-None-clause-stands
returns-in-None-clause-stands c = λ lines lead.
    not_item c.args.run.now c.run-run.ensures.safe c.run-run.ensures.table lines c.args.line c.args.first c.args.by c.args.name.now c.requires.by lead (c.in-None.ensures.none refl)
