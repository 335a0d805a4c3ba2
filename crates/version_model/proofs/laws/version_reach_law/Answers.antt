use Rattle.version_model.proofs.VersionReach
use Rattle.version_model.proofs.laws.version_reach_law.Goals as goal

pub returns : goal.returns
returns c = VersionReach.version_reach_law
