use Rattle.version_model.proofs.VersionVerdicts
use Rattle.version_model.proofs.laws.version_verdict_law.Goals as goal

pub returns : goal.returns
returns c = VersionVerdicts.version_verdict_law
