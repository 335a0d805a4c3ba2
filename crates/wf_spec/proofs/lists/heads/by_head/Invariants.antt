use Rattle.std.proofs.Common.{◌≡◌}
use Rattle.wf_spec.specs.Tables.{numbers_in, places, AreByHead}
use Rattle.wf_spec.proofs.lists.heads.by_head.Given as goal

abbrev pub invariant-loop-k : goal.invariant-loop-k
invariant-loop-k l = record {
  lists : AreByHead l.fn.modules l.rules l.k (numbers_in l.lists.items);
  places : l.places.items ≡ places l.rules l.k;
}
