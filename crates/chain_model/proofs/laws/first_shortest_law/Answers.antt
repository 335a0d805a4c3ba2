use Rattle.chain_model.proofs.FirstChains
use Rattle.chain_model.proofs.laws.first_shortest_law.Goals as goal

pub returns : goal.returns
returns c = FirstChains.first_shortest_law
