use Rattle.decode_model.proofs.LegCounts
use Rattle.decode_model.proofs.costs.count_law.Goals as goal

pub returns : goal.returns
returns c = LegCounts.count_law
