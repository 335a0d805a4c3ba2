use Rattle.label_model.proofs.CycleCounts
use Rattle.label_model.proofs.continuing.cycles_law.Goals as goal

pub returns : goal.returns
returns c = CycleCounts.cycles_law
