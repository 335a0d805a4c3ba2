use Rattle.decode_model.proofs.LastRows
use Rattle.decode_model.proofs.rows.rows_law.Goals as goal

pub returns : goal.returns
returns c = LastRows.rows_law
