use Rattle.cmd_share.proofs.PackageValues.{value_told}
use Rattle.cmd_share.proofs.package_input.package_of_bytes.Goals as goal

pub returns-in-Ok-clause-ok : goal.returns-in-Ok-clause-ok
returns-in-Ok-clause-ok c = value_told c.args.bytes.now c.in-Ok.read c.in-Ok.ensures.ok
