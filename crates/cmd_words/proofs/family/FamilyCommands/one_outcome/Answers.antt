use Rattle.cmd_words.proofs.OneAnswering.{one_answering}
use Rattle.cmd_words.proofs.family.FamilyCommands.one_outcome.Goals as goal

pub returns : goal.returns
returns c = one_answering
