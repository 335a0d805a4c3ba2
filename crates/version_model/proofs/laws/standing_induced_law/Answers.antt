use Rattle.version_model.proofs.Standing
use Rattle.version_model.proofs.laws.standing_induced_law.Goals as goal

pub returns : goal.returns
returns c = Standing.standing_induced_law
