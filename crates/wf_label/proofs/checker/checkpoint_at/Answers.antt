use Rattle.std.proofs.Common.{arith}
use Rattle.wf_label.proofs.checker.checkpoint_at.Goals as goal

pub returns : goal.returns
returns c g all = let size = c.told-checkpoints in all c.args.i _ (omega (arith, c.requires))
