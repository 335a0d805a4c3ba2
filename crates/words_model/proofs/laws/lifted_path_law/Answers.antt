use Rattle.words_model.proofs.LiftedPaths
use Rattle.words_model.proofs.laws.lifted_path_law.Goals as goal

pub returns : goal.returns
returns c = LiftedPaths.lifted_path_law
