use Rattle.bool_mat.proofs.MatrixLaws as laws
use Rattle.bool_mat.proofs.laws.commute_law.Goals as goal

pub returns : goal.returns
returns c = laws.commute_law
