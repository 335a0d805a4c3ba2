use Rattle.std.proofs.Common.{◌-◌, ◌<◌, length, arith}
use Rattle.std.proofs.Math.Bridge.{le_prop}
use Rattle.std.proofs.Math.Logic.{∥∥₁_elim}
use Rattle.wf_recur.specs.Cycles.{round_at}
use Rattle.wf_vlabel.proofs.Parts.{lasts_one, lasts_fit, lasts_more}
use Rattle.wf_vlabel.proofs.rounds.parts.push_lasts.Goals as goal

pub joined-requires-clause-fit : goal.joined-requires-clause-fit
joined-requires-clause-fit c =
    let h = c.requires.steps.1 in
    lasts_fit c.args.way c.args.g.grammar.now.core c.requires.steps.0 c.args.bodies.now _ _ c.args.pool.now _ _ c.in_ok-first.first.0 _ c.loop-place.place (c.loop-place.place - 1) _ (omega arith) h c.loop-place.invariant c.in_ok-step.ensures.added (c.in_ok-step.ensures.step c.requires.steps.0 h)

pub loop-place-preserved : goal.loop-place-preserved
loop-place-preserved c =
    lasts_more c.args.way c.args.g.grammar.now.core c.args.bodies.now _ _ c.args.pool.now _ _ _ c.in_ok-first.first.0 _ c.loop-place.place (c.loop-place.place - 1) _ _ (omega arith) c.loop-place.invariant c.in_ok-step.ensures.added c.in_ok-step.ensures.step c.in_ok-last.ensures.added c.in_ok-last.ensures.product

pub loop-place-init : goal.loop-place-init
loop-place-init c =
    let some : 0 < length (round_at c.args.g.cycles.now c.args.c.0) = ∥∥₁_elim c.args.g.cycled le_prop (λ t. (t.rounds c.args.c.0 c.requires.cycle).whole.0) in
    lasts_one c.args.way c.args.g.grammar.now.core c.args.bodies.now _ _ c.args.pool.now _ c.in_ok-first.first.0 _ (omega (arith, some, c.length-place.ensures)) c.in_ok-first.ensures.added c.in_ok-first.ensures.step
