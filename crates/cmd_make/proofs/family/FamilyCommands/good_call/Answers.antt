use Rattle.cmd_make.proofs.GoodMaking.{good_making}
use Rattle.cmd_make.proofs.family.FamilyCommands.good_call.Goals as goal

pub returns : goal.returns
returns c = good_making
