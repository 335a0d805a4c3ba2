use Rattle.report_model.proofs.WorkedReports
use Rattle.report_model.proofs.examples.reports_are_worked.Goals as goal

pub returns : goal.returns
returns c = WorkedReports.reports_are_worked
