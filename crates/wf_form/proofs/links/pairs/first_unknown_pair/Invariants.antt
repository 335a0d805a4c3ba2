use Rattle.std.proofs.Common.{ℕ, ◌<◌}
use Rattle.wf_model.specs.declared.parts.DepsPart.{DepsPart}
use Rattle.wf_model.specs.Lists.{IsAt}
use Rattle.wf_spec.specs.Pairs.{HasKnownPairs}
use Rattle.wf_form.proofs.links.pairs.first_unknown_pair.Given as goal

abbrev pub invariant-loop-k : goal.invariant-loop-k
invariant-loop-k l = (j : ℕ) → j < l.k → (d : DepsPart) → IsAt d j l.deps → HasKnownPairs l.modules d
