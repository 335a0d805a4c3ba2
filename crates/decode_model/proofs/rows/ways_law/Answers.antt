use Rattle.decode_model.proofs.LegRows
use Rattle.decode_model.proofs.rows.ways_law.Goals as goal

pub returns : goal.returns
returns c = LegRows.ways_law
