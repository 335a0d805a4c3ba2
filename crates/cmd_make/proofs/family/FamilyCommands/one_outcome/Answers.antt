use Rattle.cmd_make.proofs.OneMaking.{one_making}
use Rattle.cmd_make.proofs.family.FamilyCommands.one_outcome.Goals as goal

pub returns : goal.returns
returns c = one_making
