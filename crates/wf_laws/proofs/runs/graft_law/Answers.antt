use Rattle.wf_laws.proofs.Graft
use Rattle.wf_laws.proofs.runs.graft_law.Goals as goal

pub returns : goal.returns
returns c = Graft.graft_law
