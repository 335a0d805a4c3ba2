use Rattle.outcome_laws.proofs.LabelsTell
use Rattle.outcome_laws.proofs.law.labels_tell_law.Goals as goal

pub returns : goal.returns
returns c = LabelsTell.labels_tell_law
