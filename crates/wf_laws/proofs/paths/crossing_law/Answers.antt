use Rattle.wf_laws.proofs.Reach
use Rattle.wf_laws.proofs.paths.crossing_law.Goals as goal

pub returns : goal.returns
returns c = Reach.crossing_law
