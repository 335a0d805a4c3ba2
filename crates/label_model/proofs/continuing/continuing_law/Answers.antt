use Rattle.label_model.proofs.ContinuingSteps
use Rattle.label_model.proofs.continuing.continuing_law.Goals as goal

pub returns : goal.returns
returns c = ContinuingSteps.continuing_law
