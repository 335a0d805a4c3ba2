use Rattle.words_model.proofs.AcceptedItems
use Rattle.words_model.proofs.laws.accepted_law.Goals as goal

pub returns : goal.returns
returns c = AcceptedItems.accepted_law
