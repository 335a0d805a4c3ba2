use Rattle.label_model.proofs.LabelBits
use Rattle.label_model.proofs.spelling.prefix_free_law.Goals as goal

pub returns : goal.returns
returns c = LabelBits.prefix_free_law
