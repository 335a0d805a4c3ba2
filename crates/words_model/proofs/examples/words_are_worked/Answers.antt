use Rattle.words_model.proofs.WorkedWords
use Rattle.words_model.proofs.examples.words_are_worked.Goals as goal

pub returns : goal.returns
returns c = WorkedWords.words_are_worked
