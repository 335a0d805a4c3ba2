use Rattle.decode_model.proofs.LegCosts
use Rattle.decode_model.proofs.costs.left_law.Goals as goal

pub returns : goal.returns
returns c = LegCosts.left_law
