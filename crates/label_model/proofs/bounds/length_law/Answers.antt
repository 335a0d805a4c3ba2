use Rattle.label_model.proofs.LabelLengths
use Rattle.label_model.proofs.bounds.length_law.Goals as goal

pub returns : goal.returns
returns c = LabelLengths.length_law
