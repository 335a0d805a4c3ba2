use Rattle.verdict_model.proofs.Clashing
use Rattle.verdict_model.proofs.laws.no_clash_law.Goals as goal

pub returns : goal.returns
returns c = Clashing.no_clash_law
