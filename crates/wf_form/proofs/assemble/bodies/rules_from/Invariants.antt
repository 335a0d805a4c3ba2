use Rattle.wf_form.specs.Assembling.{AreRulesOf}
use Rattle.wf_form.proofs.assemble.bodies.rules_from.Given as goal

abbrev pub invariant-loop-wiring : goal.invariant-loop-wiring
invariant-loop-wiring l = AreRulesOf l.modules l.yielded l.rules.items
