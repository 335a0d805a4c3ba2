use Rattle.decode_model.proofs.LastRows
use Rattle.decode_model.proofs.rows.down_rows_law.Goals as goal

pub returns : goal.returns
returns c = LastRows.down_rows_law
