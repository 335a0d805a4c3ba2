use Rattle.compare_model.proofs.SeenByBoth
use Rattle.compare_model.proofs.laws.sees_no_more_law.Goals as goal

pub returns : goal.returns
returns c = SeenByBoth.sees_no_more_law
