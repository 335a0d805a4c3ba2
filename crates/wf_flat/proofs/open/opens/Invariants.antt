use Rattle.std.proofs.Common.{◌≡◌, take, length}
use Rattle.wf_flat.specs.Graph.{MarkOpen}
use Rattle.wf_flat.proofs.open.opens.Given as goal

abbrev pub invariant-loop-k : goal.invariant-loop-k
invariant-loop-k l = record {
  marked : MarkOpen l.flags.items l.expanded l.instances (take l.k-index l.seen);
  count : length l.flags.items ≡ length l.instances;
}
