use Rattle.wf_laws.proofs.Settled
use Rattle.wf_laws.proofs.views.settled_law.Goals as goal

pub returns : goal.returns
returns c = Settled.settled_law
