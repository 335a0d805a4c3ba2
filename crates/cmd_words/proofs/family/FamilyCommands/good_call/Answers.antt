use Rattle.cmd_words.proofs.GoodAnswering.{good_answering}
use Rattle.cmd_words.proofs.family.FamilyCommands.good_call.Goals as goal

pub returns : goal.returns
returns c = good_answering
