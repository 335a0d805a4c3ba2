use Rattle.compare_model.proofs.RouteLaws
use Rattle.compare_model.proofs.outcomes.first_route_law.Goals as goal

pub returns : goal.returns
returns c = RouteLaws.first_route_law
