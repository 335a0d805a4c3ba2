use Rattle.std.proofs.Common.{ℕ, ◌<◌}
use Rattle.wf_body.specs.Order.{IsNext}
use Rattle.wf_body.proofs.order.next.Given as goal

-- none so far is next
abbrev pub invariant-loop-k : goal.invariant-loop-k
invariant-loop-k l = (k : ℕ) → k < l.k → IsNext l.feeders l.placed k → ⊥
