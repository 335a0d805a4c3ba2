use Rattle.decode_model.proofs.RowProducts
use Rattle.decode_model.proofs.rows.through_law.Goals as goal

pub returns : goal.returns
returns c = RowProducts.through_law
