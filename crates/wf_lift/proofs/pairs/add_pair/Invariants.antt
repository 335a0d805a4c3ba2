use Rattle.std.proofs.Common.{◌≡◌, length, map}
use Rattle.wf_model.specs.Lists.{numbers_from}
use Rattle.wf_spec.specs.Rows.{AreAdded}
use Rattle.wf_lift.proofs.LiftedPairs.{pair_at}
use Rattle.wf_lift.proofs.pairs.add_pair.Given as goal

-- the states so far
abbrev pub invariant-loop-s : goal.invariant-loop-s
invariant-loop-s l = record {
  as_many : length l.rows ≡ length l.initial.rows;
  added : AreAdded (map (pair_at l.automaton l.m.0 l.input l.output) (numbers_from 0 l.s)) l.initial.rows l.rows;
}
