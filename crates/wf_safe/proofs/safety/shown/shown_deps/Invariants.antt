use Rattle.wf_safe.specs.Inducing.{AreShownBelow}
use Rattle.wf_safe.proofs.safety.shown.shown_deps.Given as goal

-- the modules so far
abbrev pub invariant-loop-k : goal.invariant-loop-k
invariant-loop-k l = AreShownBelow l.v.grammar.now.core l.v.view.now.core l.k l.deps
