use Rattle.std.proofs.Common.{arith}
use Rattle.wf_vlabel.proofs.Parts.{firsts_fit, firsts_more}
use Rattle.wf_vlabel.proofs.rounds.parts.push_firsts.Goals as goal

pub joined-requires-clause-fit : goal.joined-requires-clause-fit
joined-requires-clause-fit c =
    let h = c.requires.steps.1 in
    firsts_fit c.args.way c.args.g.grammar.now.core c.requires.steps.0 c.args.bodies.now _ c.args.pool.now _ _ c.in_ok-first.first.0 _ c.loop-place.place _ (omega arith) h c.loop-place.invariant c.in_ok-step.ensures.added (c.in_ok-step.ensures.step c.requires.steps.0 h)

pub loop-place-preserved : goal.loop-place-preserved
loop-place-preserved c =
    firsts_more c.args.way c.args.g.grammar.now.core c.args.bodies.now _ c.args.pool.now _ _ _ c.in_ok-first.first.0 _ c.loop-place.place _ _ (omega arith) c.loop-place.invariant c.in_ok-step.ensures.added c.in_ok-step.ensures.step c.in_ok-last.ensures.added c.in_ok-last.ensures.product
