use Rattle.wf_chain.proofs.RouteSteps.{IsPartWay}
use Rattle.wf_chain.proofs.explain.steps_along.Given as goal

abbrev pub invariant-loop-w : goal.invariant-loop-w
invariant-loop-w l = IsPartWay l.graph.run.now l.items l.graph.consumed.now l.graph.produced.now l.from l.route l.steps.items l.at l.w-index
