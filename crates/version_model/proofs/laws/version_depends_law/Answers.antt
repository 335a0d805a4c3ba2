use Rattle.version_model.proofs.VersionDepends
use Rattle.version_model.proofs.laws.version_depends_law.Goals as goal

pub returns : goal.returns
returns c = VersionDepends.version_depends_law
