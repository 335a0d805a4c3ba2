use Rattle.std.proofs.Common.{◌+◌}
use Rattle.wf_safe.specs.Inducing.{AreInducedBefore}
use Rattle.wf_safe.proofs.safety.ranked.induce_all.Given as goal

-- the ranks so far
abbrev pub invariant-loop-below : goal.invariant-loop-below
invariant-loop-below l = AreInducedBefore l.v.grammar.now.core l.v.view.now.core l.proper (l.below + 1) 0 l.deps
