use Rattle.std.proofs.Common.{◌≡◌, ◌<◌, ◌+◌, ◌-◌, ◌*◌, length, get_or}
use Rattle.std.specs.Prelude.{count_by, not}
use Rattle.wf_graph.specs.Search.{IsSearch}
use Rattle.wf_graph.proofs.search.Search.finds.Given as goal

abbrev pub invariant-loop-self : goal.invariant-loop-self
invariant-loop-self g l = record {
  search : IsSearch (g.G.Graph.leads l.graph) (g.G.Graph.size l.graph) l.self.marks.items l.self.queue.items l.self.done;
  first : get_or l.self.queue.items 0 0 ≡ get_or l.fn.self.queue.items 0 0;
  some : 0 < length l.self.queue.items;
}

abbrev pub decreases-loop-self : goal.decreases-loop-self
decreases-loop-self g l = 2 * count_by not l.self.marks.items + length l.self.queue.items - l.self.done
