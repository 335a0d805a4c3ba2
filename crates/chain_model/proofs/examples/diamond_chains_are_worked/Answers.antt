use Rattle.chain_model.proofs.WorkedDiamondChains
use Rattle.chain_model.proofs.examples.diamond_chains_are_worked.Goals as goal

pub returns : goal.returns
returns c = WorkedDiamondChains.diamond_chains_are_worked
