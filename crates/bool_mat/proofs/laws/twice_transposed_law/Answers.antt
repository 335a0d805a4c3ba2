use Rattle.bool_mat.proofs.MatrixLaws as laws
use Rattle.bool_mat.proofs.laws.twice_transposed_law.Goals as goal

pub returns : goal.returns
returns c = laws.twice_transposed_law
