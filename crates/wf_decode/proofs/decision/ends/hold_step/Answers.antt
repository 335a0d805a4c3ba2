use Rattle.std.proofs.Common.{ap, ◌∙◌}
use Rattle.wf_model.specs.Grammar.{Grammar, Production, production_at}
use Rattle.wf_recur.proofs.Stepping.{module_read}
use Rattle.wf_decode.proofs.decision.ends.hold_step.Goals as goal

pub returns-clause-module : goal.returns-clause-module
returns-clause-module c =
    let p = c.args.step.production.0 in
    let is = c.positions.ensures ∙ ap (λ (z : Production). z.positions) (c.production.ensures.core ∙ ap (λ (z : Grammar). production_at z p) c.grammar.ensures.grammar) in
    module_read c.positions.result.now c.args.step.position.0 c.index-positions-step.result (production_at c.args.vl.now.grammar p).positions is c.requires.position
