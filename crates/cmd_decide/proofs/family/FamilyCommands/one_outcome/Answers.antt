use Rattle.cmd_decide.proofs.OneDeciding.{one_deciding}
use Rattle.cmd_decide.proofs.family.FamilyCommands.one_outcome.Goals as goal

pub returns : goal.returns
returns c = one_deciding
