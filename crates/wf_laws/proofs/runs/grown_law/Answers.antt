use Rattle.wf_laws.proofs.Grown
use Rattle.wf_laws.proofs.runs.grown_law.Goals as goal

pub returns : goal.returns
returns c = Grown.grown_law
