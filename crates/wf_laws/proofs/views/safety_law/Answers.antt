use Rattle.wf_laws.proofs.Safety
use Rattle.wf_laws.proofs.views.safety_law.Goals as goal

pub returns : goal.returns
returns c = Safety.safety_law
