use Rattle.label_model.proofs.ReadFromFront
use Rattle.label_model.proofs.reading.reading_law.Goals as goal

pub returns : goal.returns
returns c = ReadFromFront.reading_law
