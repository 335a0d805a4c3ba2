use Rattle.compare_model.proofs.Comparisons
use Rattle.compare_model.proofs.outcomes.one_outcome_law.Goals as goal

pub returns : goal.returns
returns c = Comparisons.one_outcome_law
