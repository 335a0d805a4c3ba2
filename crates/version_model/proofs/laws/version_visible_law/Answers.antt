use Rattle.version_model.proofs.VersionSeen
use Rattle.version_model.proofs.laws.version_visible_law.Goals as goal

pub returns : goal.returns
returns c = VersionSeen.version_visible_law
