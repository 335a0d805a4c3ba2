use Rattle.bool_mat.proofs.Rows.{Column}
use Rattle.bool_mat.proofs.row.column.Given as goal

-- the rows so far that have the column
abbrev pub invariant-loop-i : goal.invariant-loop-i
invariant-loop-i l = Column l.rows l.j l.i l.column
