use Rattle.version_model.proofs.VersionSteps
use Rattle.version_model.proofs.laws.version_step_law.Goals as goal

pub returns : goal.returns
returns c = VersionSteps.version_step_law
