use Rattle.verdict_model.proofs.LabelsTold
use Rattle.verdict_model.proofs.laws.telling_law.Goals as goal

pub returns : goal.returns
returns c = LabelsTold.telling_law
