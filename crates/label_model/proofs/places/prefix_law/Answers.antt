use Rattle.label_model.proofs.StepsTold
use Rattle.label_model.proofs.places.prefix_law.Goals as goal

pub returns : goal.returns
returns c = StepsTold.prefix_law
