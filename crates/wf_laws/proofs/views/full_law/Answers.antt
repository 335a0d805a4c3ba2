use Rattle.wf_laws.proofs.Full
use Rattle.wf_laws.proofs.views.full_law.Goals as goal

pub returns : goal.returns
returns c = Full.full_law
