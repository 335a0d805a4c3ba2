use Rattle.package_model.proofs.PackageLoops
use Rattle.package_model.proofs.laws.package_loops_law.Goals as goal

pub returns : goal.returns
returns c = PackageLoops.package_loops_law
