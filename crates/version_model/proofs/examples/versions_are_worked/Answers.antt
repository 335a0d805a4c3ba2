use Rattle.version_model.proofs.WorkedVersions
use Rattle.version_model.proofs.examples.versions_are_worked.Goals as goal

pub returns : goal.returns
returns c = WorkedVersions.versions_are_worked
