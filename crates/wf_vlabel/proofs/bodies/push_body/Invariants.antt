use Rattle.std.proofs.Common.{◌*◌}
use Rattle.bool_mat.specs.Matrix.{Adds}
use Rattle.wf_model.specs.Meaning.{pairs_of}
use Rattle.wf_vlabel.specs.Tables.{AreStepGroups, of_position}
use Rattle.wf_vlabel.proofs.bodies.push_body.Given as goal

-- the matrices of the positions so far
abbrev pub invariant-loop-k : goal.invariant-loop-k
invariant-loop-k l = record {
  added : Adds l.initial.pool l.pool l.first.0 (l.k * of_position l.g.core l.p.0);
  groups : AreStepGroups l.g.core (pairs_of l.deps) l.p.0 l.k l.pool l.first.0;
}
