use Rattle.label_model.proofs.ReadByParts
use Rattle.label_model.proofs.reading.parts_law.Goals as goal

pub returns : goal.returns
returns c = ReadByParts.parts_law
