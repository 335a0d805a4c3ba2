use Rattle.package_model.proofs.Consulted
use Rattle.package_model.proofs.laws.consult_law.Goals as goal

pub returns : goal.returns
returns c = Consulted.consult_law
