use Rattle.decode_model.proofs.RowProducts
use Rattle.decode_model.proofs.rows.progress_law.Goals as goal

pub returns : goal.returns
returns c = RowProducts.progress_law
