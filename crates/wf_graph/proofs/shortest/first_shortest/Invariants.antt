use Rattle.std.proofs.Common.{◌+◌, ◌-◌, ◌*◌, length}
use Rattle.std.specs.Prelude.{count_by, not}
use Rattle.wf_graph.specs.Trails.{IsTracked}
use Rattle.wf_graph.proofs.shortest.first_shortest.Given as goal

abbrev pub invariant-loop-place : goal.invariant-loop-place
invariant-loop-place g l = IsTracked (g.G.Graph.leads l.graph) (g.G.Graph.size l.graph) l.from l.search.marks.items l.search.queue.items l.came.items l.search.done

abbrev pub decreases-loop-place : goal.decreases-loop-place
decreases-loop-place g l = 2 * count_by not l.search.marks.items + length l.search.queue.items - l.search.done
