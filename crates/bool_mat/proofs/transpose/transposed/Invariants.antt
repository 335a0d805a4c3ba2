use Rattle.std.proofs.Common.{◌≡◌, length}
use Rattle.bool_mat.proofs.Products.{Turned}
use Rattle.bool_mat.proofs.transpose.transposed.Given as goal

-- the rows so far are the columns of the matrix
abbrev pub invariant-loop-j : goal.invariant-loop-j
invariant-loop-j l =
    record {
      turned : Turned (record { rows = l.turned-inside.rows.now; columns = l.turned-inside.columns }) l.rows l.j;
      room : length l.rows ≡ 64;
    }
