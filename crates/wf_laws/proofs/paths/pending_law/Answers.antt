use Rattle.wf_laws.proofs.Reach
use Rattle.wf_laws.proofs.paths.pending_law.Goals as goal

pub returns : goal.returns
returns c = Reach.pending_law
