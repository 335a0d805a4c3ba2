use Rattle.wf_laws.proofs.Ranked
use Rattle.wf_laws.proofs.views.ends_law.Goals as goal

pub returns : goal.returns
returns c = Ranked.ends_law
