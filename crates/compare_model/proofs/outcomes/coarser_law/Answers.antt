use Rattle.compare_model.proofs.Coarseness
use Rattle.compare_model.proofs.outcomes.coarser_law.Goals as goal

pub returns : goal.returns
returns c = Coarseness.coarser_law
