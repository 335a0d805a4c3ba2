use Rattle.verdict_model.proofs.Clashing
use Rattle.verdict_model.proofs.laws.either_law.Goals as goal

pub returns : goal.returns
returns c = Clashing.either_law
