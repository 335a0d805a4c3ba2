use Rattle.cmd_ask.proofs.OneAnswering.{one_answering}
use Rattle.cmd_ask.proofs.family.FamilyCommands.one_outcome.Goals as goal

pub returns : goal.returns
returns c = one_answering
