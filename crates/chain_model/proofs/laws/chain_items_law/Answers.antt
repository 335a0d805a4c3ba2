use Rattle.chain_model.proofs.OneInstance
use Rattle.chain_model.proofs.laws.chain_items_law.Goals as goal

pub returns : goal.returns
returns c = OneInstance.chain_items_law
