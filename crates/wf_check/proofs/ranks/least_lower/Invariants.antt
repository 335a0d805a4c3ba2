use Rattle.wf_check.proofs.Lower.{NoneLower}
use Rattle.wf_check.proofs.ranks.least_lower.Given as goal

abbrev pub invariant-loop-p : goal.invariant-loop-p
invariant-loop-p l = NoneLower l.g.core l.ranks l.n l.fn.m.0 l.p-items l.p-index
