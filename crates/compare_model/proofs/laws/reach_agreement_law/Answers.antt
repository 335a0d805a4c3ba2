use Rattle.compare_model.proofs.Agreement
use Rattle.compare_model.proofs.laws.reach_agreement_law.Goals as goal

pub returns : goal.returns
returns c = Agreement.reach_agreement_law
