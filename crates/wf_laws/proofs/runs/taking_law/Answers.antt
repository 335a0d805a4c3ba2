use Rattle.wf_model.proofs.Taking
use Rattle.wf_laws.proofs.runs.taking_law.Goals as goal

pub returns : goal.returns
returns c = Taking.taking_law
