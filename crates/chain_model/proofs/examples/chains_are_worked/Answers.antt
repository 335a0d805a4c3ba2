use Rattle.chain_model.proofs.WorkedChains
use Rattle.chain_model.proofs.examples.chains_are_worked.Goals as goal

pub returns : goal.returns
returns c = WorkedChains.chains_are_worked
