use Rattle.package_file.proofs.PackageOrNot.{package_or_fault_law}
use Rattle.package_file.proofs.outcome_law.package_or_fault_law.Goals as goal

pub returns : goal.returns
returns c = package_or_fault_law
