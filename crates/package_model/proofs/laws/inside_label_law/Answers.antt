use Rattle.package_model.proofs.InsideLabels
use Rattle.package_model.proofs.laws.inside_label_law.Goals as goal

pub returns : goal.returns
returns c = InsideLabels.inside_label_law
