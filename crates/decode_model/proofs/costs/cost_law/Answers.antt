use Rattle.decode_model.proofs.LegCosts
use Rattle.decode_model.proofs.costs.cost_law.Goals as goal

pub returns : goal.returns
returns c = LegCosts.cost_law
