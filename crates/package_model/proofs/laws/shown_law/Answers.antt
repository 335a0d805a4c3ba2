use Rattle.package_model.proofs.ShownAlike
use Rattle.package_model.proofs.laws.shown_law.Goals as goal

pub returns : goal.returns
returns c = ShownAlike.shown_law
