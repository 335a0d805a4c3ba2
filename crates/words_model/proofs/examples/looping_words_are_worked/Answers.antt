use Rattle.words_model.proofs.WorkedLoopingWords
use Rattle.words_model.proofs.examples.looping_words_are_worked.Goals as goal

pub returns : goal.returns
returns c = WorkedLoopingWords.looping_words_are_worked
