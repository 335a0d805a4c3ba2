use Rattle.decode_model.proofs.ChainLegs
use Rattle.decode_model.proofs.ways.chain_leg_law.Goals as goal

pub returns : goal.returns
returns c = ChainLegs.chain_leg_law
