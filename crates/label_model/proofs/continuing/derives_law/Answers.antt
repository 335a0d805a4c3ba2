use Rattle.label_model.proofs.Deriving
use Rattle.label_model.proofs.continuing.derives_law.Goals as goal

pub returns : goal.returns
returns c = Deriving.derives_law
