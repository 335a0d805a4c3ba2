use Rattle.outcome_laws.proofs.ConsultIsDecide
use Rattle.outcome_laws.proofs.law.consult_is_decide_law.Goals as goal

pub returns : goal.returns
returns c = ConsultIsDecide.consult_is_decide c.read_back_law.ensures c.consult_written_law.ensures
