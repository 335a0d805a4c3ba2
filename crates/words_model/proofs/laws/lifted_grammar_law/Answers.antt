use Rattle.words_model.proofs.LiftedGrammars
use Rattle.words_model.proofs.laws.lifted_grammar_law.Goals as goal

pub returns : goal.returns
returns c = LiftedGrammars.lifted_grammar_law
