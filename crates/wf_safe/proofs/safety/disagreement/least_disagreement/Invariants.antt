use Rattle.std.proofs.Common.{ℕ, ◌<◌}
use Rattle.wf_model.specs.Meaning.{pairs_of}
use Rattle.wf_safe.specs.Disagreeing.{AgreesIfExpanded}
use Rattle.wf_safe.proofs.safety.disagreement.least_disagreement.Given as goal

-- the productions so far
abbrev pub invariant-loop-k : goal.invariant-loop-k
invariant-loop-k l = (p : ℕ) → p < l.k → AgreesIfExpanded l.v.grammar.now.core l.v.view.now.core (pairs_of l.deps) p
