use Rattle.std.proofs.Common.{◌≡◌}
use Rattle.std.specs.List.{filter_map}
use Rattle.wf_model.specs.Lists.{numbers_from}
use Rattle.wf_check.specs.UnitRules.{unit_rule_at}
use Rattle.wf_check.proofs.unit.rule.unit_rules.Given as goal

abbrev pub invariant-loop-p : goal.invariant-loop-p
invariant-loop-p l = l.units.items ≡ filter_map (unit_rule_at l.g.core) (numbers_from 0 l.p)
