use Rattle.label_model.proofs.Periods
use Rattle.label_model.proofs.continuing.period_law.Goals as goal

pub returns : goal.returns
returns c = Periods.period_law
