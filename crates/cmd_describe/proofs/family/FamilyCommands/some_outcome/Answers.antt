use Rattle.cmd_describe.proofs.SomeDescription.{some_description}
use Rattle.cmd_describe.proofs.family.FamilyCommands.some_outcome.Goals as goal

pub returns : goal.returns
returns c = some_description
