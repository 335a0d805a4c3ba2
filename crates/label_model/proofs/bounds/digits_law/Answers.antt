use Rattle.label_model.proofs.RunDigits
use Rattle.label_model.proofs.bounds.digits_law.Goals as goal

pub returns : goal.returns
returns c = RunDigits.digits_law
