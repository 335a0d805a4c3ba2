use Rattle.report_model.proofs.TakenReports
use Rattle.report_model.proofs.laws.any_order_law.Goals as goal

pub returns : goal.returns
returns c = TakenReports.any_order_law
