use Rattle.words_model.proofs.LiftedTelling
use Rattle.words_model.proofs.laws.lifted_label_law.Goals as goal

pub returns : goal.returns
returns c = LiftedTelling.lifted_label_law
