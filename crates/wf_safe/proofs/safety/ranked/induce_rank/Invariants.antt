use Rattle.wf_safe.specs.Inducing.{AreInducedBefore}
use Rattle.wf_safe.proofs.safety.ranked.induce_rank.Given as goal

-- the modules so far
abbrev pub invariant-loop-m : goal.invariant-loop-m
invariant-loop-m l = AreInducedBefore l.v.grammar.now.core l.v.view.now.core l.proper l.rank l.m l.deps
