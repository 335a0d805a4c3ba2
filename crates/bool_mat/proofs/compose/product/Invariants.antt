use Rattle.std.proofs.Common.{◌≡◌, length}
use Rattle.bool_mat.proofs.Products.{Made}
use Rattle.bool_mat.proofs.compose.product.Given as goal

-- the rows so far are those of the product
abbrev pub invariant-loop-i : goal.invariant-loop-i
invariant-loop-i l =
    record {
      made : Made (record { rows = l.left-inside.rows.now; columns = l.left-inside.columns }) (record { rows = l.right-inside.rows.now; columns = l.right-inside.columns }) l.rows l.i;
      room : length l.rows ≡ 64;
    }
