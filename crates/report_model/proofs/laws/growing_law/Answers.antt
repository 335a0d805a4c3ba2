use Rattle.report_model.proofs.Growing
use Rattle.report_model.proofs.laws.growing_law.Goals as goal

pub returns : goal.returns
returns c = Growing.growing_law
