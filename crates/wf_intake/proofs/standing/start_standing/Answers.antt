use Rattle.wf_intake.proofs.Stands.{not_nil, start_same, start_other}
use Rattle.wf_intake.proofs.standing.start_standing.Goals as goal

pub returns-then-is_root-clause-stands : goal.returns-then-is_root-clause-stands
returns-then-is_root-clause-stands g c = λ events is fits. start_same _ c.args.reported.now (g.R.Grows.is_run c.args.run.now) c.args.name.now c.is_root.result c.is_root.ensures events is fits (not_nil events c.is_started.result (c.is_started.ensures events is) c.if-not-is_started.false) c.if-is_root.true

pub returns-clause-stands : goal.returns-clause-stands
returns-clause-stands g c = λ events is fits. start_other _ c.args.reported.now (g.R.Grows.is_run c.args.run.now) c.args.name.now c.is_root.result c.is_root.ensures events is fits (not_nil events c.is_started.result (c.is_started.ensures events is) c.if-not-is_started.false) c.if-is_root.false c.start.result c.start.ensures
