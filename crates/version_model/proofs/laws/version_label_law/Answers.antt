use Rattle.version_model.proofs.VersionEntries
use Rattle.version_model.proofs.laws.version_label_law.Goals as goal

pub returns : goal.returns
returns c = VersionEntries.version_label_law
