use Rattle.std.proofs.Common.{◌≡◌, length}
use Rattle.wf_spec.specs.Rows.{AreAdded}
use Rattle.words_model.specs.Lifting.{lift_pairs}
use Rattle.wf_lift.specs.RowPairs.{set_pairs_below}
use Rattle.wf_lift.proofs.pairs.add_rows.Given as goal

-- the inputs so far
abbrev pub invariant-loop-i : goal.invariant-loop-i
invariant-loop-i l = record {
  as_many : length l.rows ≡ length l.initial.rows;
  added : AreAdded (lift_pairs l.automaton l.m.0 (set_pairs_below l.shown l.outputs l.i)) l.initial.rows l.rows;
}
