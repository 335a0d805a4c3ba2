use Rattle.words_model.proofs.WordPaths
use Rattle.words_model.proofs.laws.word_law.Goals as goal

pub returns : goal.returns
returns c = WordPaths.word_law
