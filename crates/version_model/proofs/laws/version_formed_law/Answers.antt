use Rattle.version_model.proofs.VersionFormed
use Rattle.version_model.proofs.laws.version_formed_law.Goals as goal

pub returns : goal.returns
returns c = VersionFormed.version_formed_law
