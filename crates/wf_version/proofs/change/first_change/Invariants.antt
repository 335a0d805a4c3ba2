use Rattle.std.proofs.Common.{ℕ, ◌<◌}
use Rattle.wf_model.specs.Versions.{GetsOnCycle}
use Rattle.wf_version.proofs.change.first_change.Given as goal

abbrev pub invariant-loop-m : goal.invariant-loop-m
invariant-loop-m l = (k : ℕ) → k < l.m → GetsOnCycle l.g.grammar.now.core l.version.modules l.version.productions k → ⊥
