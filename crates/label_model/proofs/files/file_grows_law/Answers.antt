use Rattle.label_model.proofs.FileGrowth
use Rattle.label_model.proofs.files.file_grows_law.Goals as goal

pub returns : goal.returns
returns c = FileGrowth.file_grows_law
