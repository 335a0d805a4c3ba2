use Rattle.std.proofs.Common.{◌≡◌, ◌≤◌, length}
use Rattle.wf_chain.specs.ItemGraphs.{AreMadeFrom}
use Rattle.wf_chain.proofs.item_graph.made_at.Given as goal

abbrev pub invariant-loop-left : goal.invariant-loop-left
invariant-loop-left l = record {
  below : l.left ≤ length l.produced;
  count : length l.first.items ≡ l.instances;
  made : AreMadeFrom l.produced l.left l.first.items l.next.items;
}

abbrev pub decreases-loop-left : goal.decreases-loop-left
decreases-loop-left l = l.left
