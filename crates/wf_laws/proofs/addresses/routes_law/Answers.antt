use Rattle.wf_laws.proofs.Routes
use Rattle.wf_laws.proofs.addresses.routes_law.Goals as goal

pub returns : goal.returns
returns c = Routes.routes_law
