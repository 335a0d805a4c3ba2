use Rattle.std.proofs.Common.{◌≤◌, take, length}
use Rattle.wf_flat.specs.Graph.{links_among}
use Rattle.wf_flat.specs.Leading.{IsIndex}
use Rattle.wf_flat.proofs.placing.ports_of.Given as goal

abbrev pub invariant-loop-k : goal.invariant-loop-k
invariant-loop-k l = record {
  small : length l.words.items ≤ 2147483648;
  index : IsIndex (links_among l.g.core l.expanded l.leaf l.run.instances (take l.k-index l.seen)) l.begins.items l.words.items l.rows.items;
}
