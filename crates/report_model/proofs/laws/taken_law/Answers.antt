use Rattle.report_model.proofs.TakenReports
use Rattle.report_model.proofs.laws.taken_law.Goals as goal

pub returns : goal.returns
returns c = TakenReports.taken_law
