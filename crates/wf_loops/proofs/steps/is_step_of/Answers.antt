use Rattle.std.proofs.Common.{rules}
use Rattle.wf_model.specs.Grammar.{Production}
use Rattle.wf_model.specs.Meaning.{position_of}
use Rattle.wf_model.specs.Steps.{step_of}
use Rattle.wf_spec.specs.Held.{HeldProduction}
use Rattle.wf_loops.proofs.StepsOfModules.{past_productions, in_productions, of_other, of_head}
use Rattle.wf_loops.proofs.steps.is_step_of.Goals as goal

abbrev core_of : HeldProduction → Production
core_of p = p.core

pub returns-then-step-productions : goal.returns-then-step-productions
returns-then-step-productions c = past_productions c.args.g.now.core c.args.m.0 (step_of c.args.step) core_of c.productions.result.now c.productions.ensures.productions c.if-step-productions.true

pub production-production-requires : goal.production-production-requires
production-production-requires c = in_productions c.args.g.now.core c.args.m.0 (step_of c.args.step) core_of c.productions.result.now c.productions.ensures.productions c.if-step-productions.false

pub returns-then-eq : goal.returns-then-eq
returns-then-eq c =
    of_head c.args.g.now.core c.args.m.0 (step_of c.args.step) c.production-production.result.now.core c.production-production.ensures.core position_of c.positions.result.now c.head.result.0 c.eq.result
    (in_productions c.args.g.now.core c.args.m.0 (step_of c.args.step) core_of c.productions.result.now c.productions.ensures.productions c.if-step-productions.false)
    c.head.ensures c.eq.ensures c.if-eq.true c.positions.ensures

pub returns-else-eq : goal.returns-else-eq
returns-else-eq c =
    of_other c.args.g.now.core c.args.m.0 (step_of c.args.step) c.production-production.result.now.core c.production-production.ensures.core c.head.result.0 c.eq.result c.head.ensures c.eq.ensures c.if-eq.false

pub overflow_cast-result : goal.overflow_cast-result
overflow_cast-result c = search rules
