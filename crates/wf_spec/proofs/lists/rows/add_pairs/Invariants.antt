use Rattle.std.proofs.Common.{map, take}
use Rattle.wf_spec.specs.GivenRows.{pair_of}
use Rattle.wf_spec.specs.Rows.{AreAdded}
use Rattle.wf_spec.proofs.lists.rows.add_pairs.Given as goal

abbrev pub invariant-loop-pair : goal.invariant-loop-pair
invariant-loop-pair l = AreAdded (map pair_of (take l.pair-index l.pairs)) l.initial.rows l.rows
