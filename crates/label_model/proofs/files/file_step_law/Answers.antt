use Rattle.label_model.proofs.FileGrowth
use Rattle.label_model.proofs.files.file_step_law.Goals as goal

pub returns : goal.returns
returns c = FileGrowth.file_step_law
