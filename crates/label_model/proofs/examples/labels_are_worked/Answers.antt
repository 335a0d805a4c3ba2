use Rattle.label_model.proofs.WorkedLabels
use Rattle.label_model.proofs.examples.labels_are_worked.Goals as goal

pub returns : goal.returns
returns c = WorkedLabels.labels_are_worked
