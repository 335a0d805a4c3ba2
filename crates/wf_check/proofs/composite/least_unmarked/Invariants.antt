use Rattle.std.proofs.Common.{◌≡◌, ◌<◌, ℕ, get_or, true, false}
use Rattle.wf_model.specs.Grammar.{IsComposite}
use Rattle.wf_check.proofs.composite.least_unmarked.Given as goal

abbrev pub invariant-loop-m : goal.invariant-loop-m
invariant-loop-m l = (k : ℕ) → k < l.m → IsComposite l.g.core k → get_or l.marks k false ≡ true
