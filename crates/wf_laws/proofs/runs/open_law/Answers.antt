use Rattle.wf_model.proofs.Open
use Rattle.wf_laws.proofs.runs.open_law.Goals as goal

pub returns : goal.returns
returns c = Open.open_law
