use Rattle.std.proofs.Common.{◌≡◌, length}
use Rattle.wf_spec.specs.Rows.{AreAdded}
use Rattle.words_model.specs.Lifting.{lift_pairs}
use Rattle.wf_lift.specs.RowPairs.{row_pairs}
use Rattle.wf_lift.proofs.pairs.add_row.Given as goal

-- the outputs so far
abbrev pub invariant-loop-o : goal.invariant-loop-o
invariant-loop-o l = record {
  as_many : length l.rows ≡ length l.initial.rows;
  added : AreAdded (lift_pairs l.automaton l.m.0 (row_pairs l.input l.row l.o)) l.initial.rows l.rows;
}
