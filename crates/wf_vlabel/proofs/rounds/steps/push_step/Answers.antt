use Rattle.std.proofs.Common.{◌∙◌, arith}
use Rattle.label_model.specs.Continuing.{after}
use Rattle.label_model.proofs.ContinuingSteps.{continuing_is}
use Rattle.wf_recur.specs.Cycles.{round_at, least_of, step_of}
use Rattle.bool_mat.specs.Matrix.{matrix_at}
use Rattle.std.proofs.lemmas.Result.{IfOk-weaker}
use Rattle.wf_vlabel.proofs.Chains.{step_inside, chain_one}
use Rattle.wf_vlabel.specs.Tables.{of_body}
use Rattle.wf_vlabel.proofs.rounds.steps.push_step.Goals as goal

pub place_of-at-requires-clause-production : goal.place_of-at-requires-clause-production
place_of-at-requires-clause-production c = (continuing_is c.args.g.grammar.now.core _ (step_of c.step_at-s.result) c.step_at-s.ensures).0.in_range

pub place_of-at-requires-clause-position : goal.place_of-at-requires-clause-position
place_of-at-requires-clause-position c = (continuing_is c.args.g.grammar.now.core _ (step_of c.step_at-s.result) c.step_at-s.ensures).0.position

pub matrix-m-requires : goal.matrix-m-requires
matrix-m-requires c =
    let s = step_of c.step_at-s.result in
    let g = c.args.g.grammar.now.core in
    let l = step_inside c.args.way g s (continuing_is g _ s c.step_at-s.ensures).0.position in
    (of_body g s.production, (c.requires.steps.1 c.args.place s c.step_at-s.ensures).has, omega (arith, c.place_of-at.ensures, l))

pub returns-clause-step : goal.returns-clause-step
returns-clause-step c =
    let s = step_of c.step_at-s.result in
    let g = c.args.g.grammar.now.core in
    IfOk-weaker c.push.result _ _
    (λ n e d h. chain_one c.args.way g d c.args.bodies.now (after g c.args.place (least_of (round_at c.args.g.cycles.now c.args.c.0))) c.place_of-at.result s (matrix_at c.push.new.self n.0) c.step_at-s.ensures (h c.args.place s c.step_at-s.ensures) c.place_of-at.ensures (e ∙ c.m.view_is ∙ c.matrix-m.ensures.same))
    c.push.ensures.pushed
