use Rattle.std.proofs.Common.{◌∙◌, ap, sym, Vec, Global}
use Rattle.wf_check.specs.declared.unit.rule.UnitRule.{UnitRule}
use Rattle.wf_check.specs.UnitRules.{unit_rule_at}
use Rattle.wf_check.proofs.UnitRules.{filter_map_more, filter_map_same}
use Rattle.wf_check.proofs.unit.rule.unit_rules.Goals as goal
use Rattle.wf_check.proofs.unit.rule.unit_rules.Goals.{in-Some+in_ok-push, in_default}

pub loop-p-preserved : goal.loop-p-preserved
loop-p-preserved c =
    let f = unit_rule_at c.args.g.now.core in
    elim c.match-unit_rule.branch [
      | in-Some+in_ok-push w ↦ ap (λ (v : Vec UnitRule Global). v.items) w.units-is ∙ filter_map_more f c.loop-p.p w.in-Some.u c.loop-p.units.items w.push.new.self.items c.loop-p.invariant (sym c.unit_rule.ensures ∙ w.in-Some.is) w.in_ok-push.ensures.items
      | in_default w ↦ ap (λ (v : Vec UnitRule Global). v.items) w.units-is ∙ filter_map_same f c.loop-p.p c.loop-p.units.items c.loop-p.invariant (sym c.unit_rule.ensures ∙ w.in_default.is)
    ]
