use Rattle.cmd_words.proofs.SomeAnswering.{some_answering}
use Rattle.cmd_words.proofs.family.FamilyCommands.some_outcome.Goals as goal

pub returns : goal.returns
returns c = some_answering
