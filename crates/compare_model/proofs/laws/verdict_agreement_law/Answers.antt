use Rattle.compare_model.proofs.VerdictAgreement
use Rattle.compare_model.proofs.laws.verdict_agreement_law.Goals as goal

pub returns : goal.returns
returns c = VerdictAgreement.verdict_agreement_law
