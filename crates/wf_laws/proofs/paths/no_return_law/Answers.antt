use Rattle.wf_laws.proofs.Bodies
use Rattle.wf_laws.proofs.paths.no_return_law.Goals as goal

pub returns : goal.returns
returns c = Bodies.no_return_law
