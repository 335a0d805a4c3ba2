use Rattle.version_model.proofs.VersionReports
use Rattle.version_model.proofs.laws.version_reports_law.Goals as goal

pub returns : goal.returns
returns c = VersionReports.version_reports_law
