use Rattle.compare_model.proofs.ShownRuns
use Rattle.compare_model.proofs.outcomes.shown_law.Goals as goal

pub returns : goal.returns
returns c = ShownRuns.shown_law
