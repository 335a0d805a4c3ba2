use Rattle.compare_model.proofs.WorkedComparisons
use Rattle.compare_model.proofs.examples.comparisons_are_worked.Goals as goal

pub returns : goal.returns
returns c = WorkedComparisons.comparisons_are_worked
