use Rattle.cmd_describe.proofs.GoodDescription.{good_description}
use Rattle.cmd_describe.proofs.family.FamilyCommands.good_call.Goals as goal

pub returns : goal.returns
returns c = good_description
