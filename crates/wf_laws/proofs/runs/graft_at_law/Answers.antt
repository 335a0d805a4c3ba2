use Rattle.wf_laws.proofs.GraftAt
use Rattle.wf_laws.proofs.runs.graft_at_law.Goals as goal

pub returns : goal.returns
returns c = GraftAt.graft_at_law
