use Rattle.std.proofs.Common.{◌-◌, length}
use Rattle.wf_body.specs.Order.{positions_of}
use Rattle.wf_body.proofs.Ordering.{IsSoFar}
use Rattle.wf_body.proofs.order.order.Given as goal

abbrev pub invariant-loop-k : goal.invariant-loop-k
invariant-loop-k l = IsSoFar l.g.core l.fn.p.0 l.placed (positions_of l.order.items)

abbrev pub decreases-loop-k : goal.decreases-loop-k
decreases-loop-k l = l.count - length l.order.items
