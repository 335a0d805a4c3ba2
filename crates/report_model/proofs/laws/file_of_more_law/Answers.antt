use Rattle.report_model.proofs.TakenReports
use Rattle.report_model.proofs.laws.file_of_more_law.Goals as goal

pub returns : goal.returns
returns c = TakenReports.file_of_more_law
