use Rattle.wf_spec.proofs.Heads.{headed_at}
use Rattle.wf_recur.proofs.steps.back_steps_of.Goals as goal

pub add_steps-requires-clause-production : goal.add_steps-requires-clause-production
add_steps-requires-clause-production c = (headed_at c.args.g.now.core c.args.m.0 c.alternatives-p-items.result.now c.loop-p.p-index _ c.alternatives-p-items.ensures c.loop-p-test.true).0
