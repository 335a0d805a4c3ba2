use Rattle.words_model.proofs.LiftedRuns
use Rattle.words_model.proofs.laws.lifted_run_law.Goals as goal

pub returns : goal.returns
returns c = LiftedRuns.lifted_run_law
