use Rattle.report_model.proofs.Reordered
use Rattle.report_model.proofs.laws.reordered_law.Goals as goal

pub returns : goal.returns
returns c = Reordered.reordered_law
