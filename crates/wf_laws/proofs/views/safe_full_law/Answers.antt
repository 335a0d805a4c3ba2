use Rattle.wf_laws.proofs.Full
use Rattle.wf_laws.proofs.views.safe_full_law.Goals as goal

pub returns : goal.returns
returns c = Full.safe_full_law
