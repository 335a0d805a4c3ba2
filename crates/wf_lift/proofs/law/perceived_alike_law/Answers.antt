use Rattle.wf_lift.proofs.PerceivedAlike
use Rattle.wf_lift.proofs.law.perceived_alike_law.Goals as goal

pub returns : goal.returns
returns c = PerceivedAlike.perceived_alike_law
