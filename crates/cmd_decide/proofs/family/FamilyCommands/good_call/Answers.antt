use Rattle.cmd_decide.proofs.GoodDeciding.{good_deciding}
use Rattle.cmd_decide.proofs.family.FamilyCommands.good_call.Goals as goal

pub returns : goal.returns
returns c = good_deciding
