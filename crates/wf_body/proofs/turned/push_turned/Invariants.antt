use Rattle.std.proofs.Common.{◌≡◌, length}
use Rattle.bool_mat.proofs.Products.{Turned}
use Rattle.wf_body.proofs.Turning.{columns_of}
use Rattle.wf_body.proofs.turned.push_turned.Given as goal

-- the rows so far are the columns of the words
abbrev pub invariant-loop-i : goal.invariant-loop-i
invariant-loop-i l = record {
  turned : Turned (columns_of l.words) l.rows l.i;
  room : length l.rows ≡ 64;
}
