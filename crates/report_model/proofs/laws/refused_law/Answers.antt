use Rattle.report_model.proofs.TakenReports
use Rattle.report_model.proofs.laws.refused_law.Goals as goal

pub returns : goal.returns
returns c = TakenReports.refused_law
