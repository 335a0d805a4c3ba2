use Rattle.verdict_model.proofs.Keeping
use Rattle.verdict_model.proofs.laws.kept_law.Goals as goal

pub returns : goal.returns
returns c = Keeping.kept_law
