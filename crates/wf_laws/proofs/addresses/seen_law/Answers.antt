use Rattle.wf_laws.proofs.Address
use Rattle.wf_laws.proofs.addresses.seen_law.Goals as goal

pub returns : goal.returns
returns c = Address.seen_law
