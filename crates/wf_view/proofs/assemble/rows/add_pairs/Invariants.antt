use Rattle.std.proofs.Common.{map, take}
use Rattle.wf_spec.specs.Pairs.{pair_in}
use Rattle.wf_spec.specs.Rows.{AreAdded}
use Rattle.wf_view.proofs.assemble.rows.add_pairs.Given as goal

abbrev pub invariant-loop-pair : goal.invariant-loop-pair
invariant-loop-pair l = AreAdded (map (pair_in l.one) (take l.pair-index l.pairs)) l.initial.rows l.rows
