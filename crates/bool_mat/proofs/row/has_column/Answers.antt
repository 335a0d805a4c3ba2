use Rattle.std.proofs.Common.{ap, nat_eq}
use Rattle.std.proofs.lemmas.Nat.Bits.{shr_and_one}
use Rattle.bool_mat.specs.Matrix.{has}
use Rattle.bool_mat.proofs.row.has_column.Goals as goal

pub returns : goal.returns
unfolding has
returns c = ap (λ b. nat_eq b 1) (shr_and_one c.args.row c.args.j)
