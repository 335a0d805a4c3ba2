use Rattle.label_model.proofs.LabelRoom
use Rattle.label_model.proofs.bounds.room_law.Goals as goal

pub returns : goal.returns
returns c = LabelRoom.room_law
