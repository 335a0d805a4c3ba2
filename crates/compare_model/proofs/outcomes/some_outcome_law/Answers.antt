use Rattle.compare_model.proofs.Comparisons
use Rattle.compare_model.proofs.outcomes.some_outcome_law.Goals as goal

pub returns : goal.returns
returns c = Comparisons.some_outcome_law
