use Rattle.version_model.proofs.VersionRuns
use Rattle.version_model.proofs.laws.version_run_law.Goals as goal

pub returns : goal.returns
returns c = VersionRuns.version_run_law
