use Rattle.report_model.proofs.TakenReports
use Rattle.report_model.proofs.laws.accepted_law.Goals as goal

pub returns : goal.returns
returns c = TakenReports.accepted_law
