use Rattle.version_model.proofs.SameParts
use Rattle.version_model.proofs.laws.version_route_law.Goals as goal

pub returns : goal.returns
returns c = SameParts.version_route_law
