use Rattle.wf_run.proofs.Growing.{adds_one}
use Rattle.wf_run.proofs.grow.append_children.Goals as goal

pub loop-j-preserved : goal.loop-j-preserved
loop-j-preserved c = adds_one _ _ _ _ _ _ _ _ c.loop-j.invariant c.in_ok-node.ensures.node c.in_ok-node.ensures.whole c.in_ok-push.ensures.items
