use Rattle.std.proofs.Common.{◌≡◌, ◌<◌, ℕ, true, false, length, get_or}
use Rattle.wf_model.specs.Lists.{IsIn}
use Rattle.wf_graph.proofs.search.forget.Given as goal

abbrev pub invariant-loop-v : goal.invariant-loop-v
invariant-loop-v l = record {
  count : length l.marks.items ≡ length l.fn.marks.items;
  marked : (p : ℕ) → get_or l.marks.items p false ≡ true → IsIn p l.queue.items;
  below : (p : ℕ) → IsIn p l.queue.items → p < length l.marks.items;
}

abbrev pub decreases-loop-v : goal.decreases-loop-v
decreases-loop-v l = length l.queue.items
