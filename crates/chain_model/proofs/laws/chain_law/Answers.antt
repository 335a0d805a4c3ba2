use Rattle.chain_model.proofs.ChainLaws
use Rattle.chain_model.proofs.laws.chain_law.Goals as goal

pub returns : goal.returns
returns c = ChainLaws.chain_law
