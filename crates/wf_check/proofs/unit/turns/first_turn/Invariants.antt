use Rattle.std.proofs.Common.{◌≡◌, take}
use Rattle.wf_model.specs.Lists.{IsIn}
use Rattle.wf_check.specs.declared.unit.rule.UnitRule.{UnitRule}
use Rattle.wf_check.proofs.unit.turns.first_turn.Given as goal

abbrev pub invariant-loop-u : goal.invariant-loop-u
invariant-loop-u l = (u : UnitRule) → IsIn u (take l.u-index l.units) → u.head.0 ≡ l.from → u.target.0 ≡ l.to → ⊥
