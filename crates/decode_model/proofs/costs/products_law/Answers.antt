use Rattle.decode_model.proofs.QueryCosts
use Rattle.decode_model.proofs.costs.products_law.Goals as goal

pub returns : goal.returns
returns c = QueryCosts.products_law
