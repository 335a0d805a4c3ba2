use Rattle.bool_mat.proofs.MatrixLaws as laws
use Rattle.bool_mat.proofs.laws.row_law.Goals as goal

pub returns : goal.returns
returns c = laws.row_law
