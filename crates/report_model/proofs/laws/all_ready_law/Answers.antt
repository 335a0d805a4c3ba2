use Rattle.report_model.proofs.TakenReports
use Rattle.report_model.proofs.laws.all_ready_law.Goals as goal

pub returns : goal.returns
returns c = TakenReports.all_ready_law
