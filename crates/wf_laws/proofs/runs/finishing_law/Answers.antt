use Rattle.wf_laws.proofs.Growth
use Rattle.wf_laws.proofs.runs.finishing_law.Goals as goal

pub returns : goal.returns
returns c = Growth.finishing_law
