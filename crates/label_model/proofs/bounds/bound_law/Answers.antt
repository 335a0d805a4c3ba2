use Rattle.label_model.proofs.RunBounds
use Rattle.label_model.proofs.bounds.bound_law.Goals as goal

pub returns : goal.returns
returns c = RunBounds.bound_law
