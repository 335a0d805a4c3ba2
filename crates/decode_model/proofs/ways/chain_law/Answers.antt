use Rattle.decode_model.proofs.Rounds
use Rattle.decode_model.proofs.ways.chain_law.Goals as goal

pub returns : goal.returns
returns c = Rounds.chain_law
