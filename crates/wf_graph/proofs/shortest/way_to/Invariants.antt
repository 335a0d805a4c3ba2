use Rattle.std.proofs.Common.{◌<◌, ◌++◌, ℕ, List, length}
use Rattle.std.specs.Prelude.{reverse}
use Rattle.wf_graph.specs.Trails.{Traced}
use Rattle.wf_graph.proofs.shortest.way_to.Given as goal

abbrev pub invariant-loop-at : goal.invariant-loop-at
invariant-loop-at l = record {
  there : l.at < length l.queue;
  rest : (us : List ℕ) → Traced l.queue l.came l.at us → Traced l.queue l.came l.end (us ++ reverse l.way.items);
}

abbrev pub decreases-loop-at : goal.decreases-loop-at
decreases-loop-at l = l.at
