use Rattle.words_model.proofs.WordAnswers
use Rattle.words_model.proofs.laws.word_answer_law.Goals as goal

pub returns : goal.returns
returns c = WordAnswers.word_answer_law
