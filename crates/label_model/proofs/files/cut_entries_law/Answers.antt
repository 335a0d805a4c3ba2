use Rattle.label_model.proofs.CutFiles
use Rattle.label_model.proofs.files.cut_entries_law.Goals as goal

pub returns : goal.returns
returns c = CutFiles.cut_entries_law
