use Rattle.compare_model.proofs.RunsAlong
use Rattle.compare_model.proofs.outcomes.run_along_law.Goals as goal

pub returns : goal.returns
returns c = RunsAlong.run_along_law
