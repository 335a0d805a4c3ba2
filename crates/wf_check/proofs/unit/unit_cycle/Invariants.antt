use Rattle.std.proofs.Common.{◌<◌, ℕ}
use Rattle.wf_check.specs.UnitRules.{unit_rules_of}
use Rattle.wf_check.specs.UnitPaths.{IsOnCycle}
use Rattle.wf_check.proofs.unit.unit_cycle.Given as goal

abbrev pub invariant-loop-m : goal.invariant-loop-m
invariant-loop-m l = (k : ℕ) → k < l.m → IsOnCycle (unit_rules_of l.g.core) k → ⊥
