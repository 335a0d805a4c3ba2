use Rattle.cmd_decide.proofs.SomeDecision.{some_deciding}
use Rattle.cmd_decide.proofs.family.FamilyCommands.some_outcome.Goals as goal

pub returns : goal.returns
returns c = some_deciding
