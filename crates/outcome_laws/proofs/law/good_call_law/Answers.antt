use Rattle.outcome_laws.proofs.OutcomeLaws
use Rattle.outcome_laws.proofs.law.good_call_law.Goals as goal

pub returns : goal.returns
returns c = OutcomeLaws.good_call c.good_call.ensures
