use Rattle.words_model.proofs.WordVerdicts
use Rattle.words_model.proofs.laws.word_verdict_law.Goals as goal

pub returns : goal.returns
returns c = WordVerdicts.word_verdict_law
