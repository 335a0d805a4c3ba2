use Rattle.label_model.proofs.GoodFiles
use Rattle.label_model.proofs.files.good_file_law.Goals as goal

pub returns : goal.returns
returns c = GoodFiles.good_file_law
