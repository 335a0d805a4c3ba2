use Rattle.std.proofs.Common.{◌≡◌, ◌≤◌, ◌-◌, ◌++◌, length, replicate}
use Rattle.wf_graph.proofs.shortest.note.Given as goal

abbrev pub invariant-loop-came : goal.invariant-loop-came
invariant-loop-came l = record {
  noted : l.came.items ≡ l.fn.came.items ++ replicate (length l.came.items - length l.fn.came.items) l.place;
  grown : length l.fn.came.items ≤ length l.came.items;
  within : length l.came.items ≤ l.count;
}

abbrev pub decreases-loop-came : goal.decreases-loop-came
decreases-loop-came l = l.count - length l.came.items
