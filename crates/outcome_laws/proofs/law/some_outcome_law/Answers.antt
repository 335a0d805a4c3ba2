use Rattle.outcome_laws.proofs.OutcomeLaws
use Rattle.outcome_laws.proofs.law.some_outcome_law.Goals as goal

pub returns : goal.returns
returns c = OutcomeLaws.some_outcome c.some_outcome.ensures
