use Rattle.wf_recur.specs.Reaching.{rows_in}
use Rattle.wf_recur.specs.Steps.{leads_back}
use Rattle.wf_recur.proofs.Stepping.{back_more}
use Rattle.wf_recur.proofs.steps.add_steps.Goals as goal

pub loop-k-preserved : goal.loop-k-preserved
loop-k-preserved c = back_more (leads_back c.args.g.now.core (rows_in c.args.rows.now) c.args.m.0) c.args.p.0 c.loop-k.k _ _ _ c.loop-k.invariant c.in_ok-add_step.ensures
