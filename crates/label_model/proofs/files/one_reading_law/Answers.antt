use Rattle.label_model.proofs.FileReadings
use Rattle.label_model.proofs.files.one_reading_law.Goals as goal

pub returns : goal.returns
returns c = FileReadings.one_reading_law
