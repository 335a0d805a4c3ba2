use Rattle.verdict_model.proofs.BothLabels
use Rattle.verdict_model.proofs.laws.both_law.Goals as goal

pub returns : goal.returns
returns c = BothLabels.both_law
