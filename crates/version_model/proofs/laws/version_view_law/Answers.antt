use Rattle.version_model.proofs.VersionViews
use Rattle.version_model.proofs.laws.version_view_law.Goals as goal

pub returns : goal.returns
returns c = VersionViews.version_view_law
