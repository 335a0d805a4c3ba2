use Rattle.decode_model.proofs.ComponentNumbers
use Rattle.decode_model.proofs.costs.numbers_law.Goals as goal

pub returns : goal.returns
returns c = ComponentNumbers.numbers_law
