use Rattle.cmd_make.proofs.SomeMaking.{some_making}
use Rattle.cmd_make.proofs.family.FamilyCommands.some_outcome.Goals as goal

pub returns : goal.returns
returns c = some_making
