use Rattle.version_model.proofs.GivenPairs
use Rattle.version_model.proofs.laws.given_pairs_law.Goals as goal

pub returns : goal.returns
returns c = GivenPairs.given_pairs_law
