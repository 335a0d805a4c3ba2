use Rattle.bool_mat.specs.Matrix.{matrix_at}
use Rattle.bool_mat.proofs.Powers.{Table}
use Rattle.bool_mat.proofs.power.push_powers.Given as goal

abbrev pub invariant-loop-done : goal.invariant-loop-done
invariant-loop-done l = Table (matrix_at l.fn.pool l.fn.a.0) l.fn.pool l.pool l.first.0 l.last.0 l._done
