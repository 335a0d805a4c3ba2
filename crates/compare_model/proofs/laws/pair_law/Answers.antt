use Rattle.compare_model.proofs.PairsInRuns
use Rattle.compare_model.proofs.laws.pair_law.Goals as goal

pub returns : goal.returns
returns c = PairsInRuns.pair_law
