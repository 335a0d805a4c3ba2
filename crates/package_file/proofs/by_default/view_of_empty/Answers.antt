use Rattle.package_file.proofs.EmptyParts.{empty_seen}
use Rattle.package_file.proofs.by_default.view_of_empty.Goals as goal

pub returns-in-Ok-clause-default : goal.returns-in-Ok-clause-default
returns-in-Ok-clause-default c = empty_seen c.args.g.now.core c.args.parts.now c.in-Ok.view.core c.start-formed.ensures.formed c.requires c.in-Ok.ensures.accepted.0
