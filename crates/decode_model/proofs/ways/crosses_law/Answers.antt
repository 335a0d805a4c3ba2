use Rattle.decode_model.proofs.Crossing
use Rattle.decode_model.proofs.ways.crosses_law.Goals as goal

pub returns : goal.returns
returns c = Crossing.crosses_law
