use Rattle.decode_model.proofs.Decided
use Rattle.decode_model.proofs.rows.decided_law.Goals as goal

pub returns : goal.returns
returns c = Decided.decided_law
