use Rattle.compare_model.proofs.RunAgreement
use Rattle.compare_model.proofs.laws.run_agreement_law.Goals as goal

pub returns : goal.returns
returns c = RunAgreement.run_agreement_law
