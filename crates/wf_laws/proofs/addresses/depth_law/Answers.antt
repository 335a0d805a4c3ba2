use Rattle.wf_laws.proofs.Depth
use Rattle.wf_laws.proofs.addresses.depth_law.Goals as goal

pub returns : goal.returns
returns c = Depth.depth_law
