use Rattle.package_model.proofs.PackageLaws
use Rattle.package_model.proofs.laws.package_law.Goals as goal

pub returns : goal.returns
returns c = PackageLaws.package_law
