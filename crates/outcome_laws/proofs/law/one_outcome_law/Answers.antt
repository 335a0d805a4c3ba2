use Rattle.outcome_laws.proofs.OutcomeLaws
use Rattle.outcome_laws.proofs.law.one_outcome_law.Goals as goal

pub returns : goal.returns
returns c = OutcomeLaws.one_outcome c.one_outcome.ensures
