use Rattle.std.proofs.Common.{length}
use Rattle.wf_graph.specs.Search.{MetUpTo}
use Rattle.wf_graph.proofs.search.meet_row.Given as goal

abbrev pub invariant-loop-w : goal.invariant-loop-w
invariant-loop-w g l = MetUpTo (g.G.Graph.leads l.graph l.v) (g.G.Graph.rest l.graph l.v l.mark) l.fn.marks.items l.fn.queue.items l.marks.items l.queue.items

abbrev pub decreases-loop-w : goal.decreases-loop-w
decreases-loop-w g l = length (g.G.Graph.rest l.graph l.v l.mark)
