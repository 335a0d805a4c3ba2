use Rattle.wf_laws.proofs.FreshGrafts
use Rattle.wf_laws.proofs.runs.fresh_graft_law.Goals as goal

pub returns : goal.returns
returns c = FreshGrafts.fresh_graft_law
