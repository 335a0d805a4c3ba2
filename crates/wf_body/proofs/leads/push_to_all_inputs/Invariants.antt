use Rattle.std.proofs.Common.{◌+◌, ◌<◌, ℕ}
use Rattle.wf_model.specs.Meaning.{pairs_of}
use Rattle.bool_mat.specs.Matrix.{Adds, matrix_at}
use Rattle.wf_body.specs.Matrices.{LeadsToInputs}
use Rattle.wf_body.proofs.leads.push_to_all_inputs.Given as goal

-- the positions so far
abbrev pub invariant-loop-k : goal.invariant-loop-k
invariant-loop-k l = record {
  added : Adds l.initial.pool l.pool l.first.0 l.k;
  leads : (k : ℕ) → k < l.k → LeadsToInputs l.g.core (pairs_of l.deps) l.fn.p.0 l.fn.from k (matrix_at l.pool (l.first.0 + k));
}
