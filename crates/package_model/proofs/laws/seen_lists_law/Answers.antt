use Rattle.package_model.proofs.Places
use Rattle.package_model.proofs.laws.seen_lists_law.Goals as goal

pub returns : goal.returns
returns c = Places.seen_lists_law
