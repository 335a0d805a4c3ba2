use Rattle.label_model.proofs.LabelBits
use Rattle.label_model.proofs.spelling.whole_law.Goals as goal

pub returns : goal.returns
returns c = LabelBits.whole_law
