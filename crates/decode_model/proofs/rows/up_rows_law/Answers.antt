use Rattle.decode_model.proofs.LastRows
use Rattle.decode_model.proofs.rows.up_rows_law.Goals as goal

pub returns : goal.returns
returns c = LastRows.up_rows_law
