use Rattle.chain_model.proofs.WorkedTwistingChains
use Rattle.chain_model.proofs.examples.twisting_chains_are_worked.Goals as goal

pub returns : goal.returns
returns c = WorkedTwistingChains.twisting_chains_are_worked
