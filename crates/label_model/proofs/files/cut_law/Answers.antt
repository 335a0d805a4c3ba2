use Rattle.label_model.proofs.GoodFiles
use Rattle.label_model.proofs.files.cut_law.Goals as goal

pub returns : goal.returns
returns c = GoodFiles.cut_law
