use Rattle.chain_model.proofs.OneInstance
use Rattle.chain_model.proofs.laws.via_law.Goals as goal

pub returns : goal.returns
returns c = OneInstance.via_law
