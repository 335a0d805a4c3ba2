use Rattle.bool_mat.proofs.MatrixLaws as laws
use Rattle.bool_mat.proofs.laws.one_product_law.Goals as goal

pub returns : goal.returns
returns c = laws.one_product_law
