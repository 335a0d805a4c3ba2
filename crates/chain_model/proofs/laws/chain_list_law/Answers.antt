use Rattle.chain_model.proofs.ChainLists
use Rattle.chain_model.proofs.laws.chain_list_law.Goals as goal

pub returns : goal.returns
returns c = ChainLists.chain_list_law
