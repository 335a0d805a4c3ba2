use Rattle.label_model.proofs.OneItem
use Rattle.label_model.proofs.runs.one_item_law.Goals as goal

pub returns : goal.returns
returns c = OneItem.one_item_law
