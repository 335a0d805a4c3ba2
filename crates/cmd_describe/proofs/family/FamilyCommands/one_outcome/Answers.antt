use Rattle.cmd_describe.proofs.OneDescription.{one_description}
use Rattle.cmd_describe.proofs.family.FamilyCommands.one_outcome.Goals as goal

pub returns : goal.returns
returns c = one_description
