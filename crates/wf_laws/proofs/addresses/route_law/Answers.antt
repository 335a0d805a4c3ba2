use Rattle.wf_laws.proofs.Agreeing
use Rattle.wf_laws.proofs.addresses.route_law.Goals as goal

pub returns : goal.returns
returns c = Agreeing.route_law
