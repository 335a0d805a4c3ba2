use Rattle.wf_laws.proofs.Routes
use Rattle.wf_laws.proofs.addresses.address_law.Goals as goal

pub returns : goal.returns
returns c = Routes.address_law
