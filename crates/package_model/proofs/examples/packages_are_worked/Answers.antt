use Rattle.package_model.proofs.WorkedPackages
use Rattle.package_model.proofs.examples.packages_are_worked.Goals as goal

pub returns : goal.returns
returns c = WorkedPackages.packages_are_worked
