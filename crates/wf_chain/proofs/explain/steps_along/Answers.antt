use Rattle.std.proofs.Common.{sym, subst, List}
use Rattle.wf_chain.specs.declared.chain.ChainStep.{ChainStep}
use Rattle.wf_chain.proofs.RouteSteps.{IsPartWay, set_out, is_consumed, next_there, gone_on, arrived}
use Rattle.wf_chain.proofs.explain.steps_along.Goals as goal

pub loop-w-init : goal.loop-w-init
loop-w-init c =
    let g = c.args.graph.now in
    subst (λ (l : List ChainStep). IsPartWay g.run.now c.args.items.now g.consumed.now g.produced.now c.args.from c.args.route.now l c.args.from 0) (sym c.in_ok-steps.ensures.items)
    (set_out g.run.now c.args.items.now g.consumed.now g.produced.now c.args.from c.args.route.now c.requires.there c.requires.route)

pub unreachable-requires : goal.unreachable-requires
unreachable-requires c =
    let g = c.args.graph.now in
    is_consumed g.run.now c.args.items.now g.consumed.now g.produced.now c.args.from c.args.route.now c.loop-w.steps.items c.loop-w.at c.loop-w.w-index c.loop-w.invariant c.loop-w-test.true c.in_default.is

pub bounds-items-w : goal.bounds-items-w
bounds-items-w c =
    let g = c.args.graph.now in
    next_there g.run.now c.args.items.now g.consumed.now g.produced.now c.args.from c.args.route.now c.loop-w.steps.items c.loop-w.at c.loop-w.w-index c.loop-w.invariant c.loop-w-test.true
    c.in-Some.input c.in-Some.is c.requires.produced

pub loop-w-preserved : goal.loop-w-preserved
loop-w-preserved c =
    let g = c.args.graph.now in
    gone_on g.run.now c.args.items.now g.consumed.now g.produced.now c.args.from c.args.route.now c.loop-w.steps.items c.loop-w.at c.loop-w.w-index c.loop-w.invariant c.loop-w-test.true
    c.in-Some.input c.in-Some.is c.requires.produced c.push.new.self.items c.in_ok-push.ensures.items

pub returns : goal.returns
returns c =
    let g = c.args.graph.now in
    arrived g.run.now c.args.items.now g.consumed.now g.produced.now c.args.from c.args.route.now c.loop-w.steps.items c.loop-w.at c.loop-w.w-index c.loop-w.invariant c.loop-w-test.false
