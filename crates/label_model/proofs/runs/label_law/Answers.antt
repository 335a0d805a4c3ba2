use Rattle.label_model.proofs.AcceptedLabels
use Rattle.label_model.proofs.runs.label_law.Goals as goal

pub returns : goal.returns
returns c = AcceptedLabels.label_law
