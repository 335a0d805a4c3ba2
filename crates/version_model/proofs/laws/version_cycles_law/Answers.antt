use Rattle.version_model.proofs.VersionCycles
use Rattle.version_model.proofs.laws.version_cycles_law.Goals as goal

pub returns : goal.returns
returns c = VersionCycles.version_cycles_law
