use Rattle.std.proofs.Common.{◌<◌, ◌∙◌, sym, subst, length, Option, Some, None}
use Rattle.std.specs.Prelude.{IfSome}
use Rattle.wf_flat.specs.declared.graph.Port.{Port as PortHeld}
use Rattle.wf_chain.specs.ViewedRuns.{ViewedRunValue, IsViewedRun}
use Rattle.wf_chain.specs.Steps.{IsEndOf}
use Rattle.wf_chain.proofs.ItemPorts.{consumer_seen}
use Rattle.wf_chain.proofs.viewed_run.ViewedRun.consumed_at.Goals as goal

pub returns-in_default-clause-end : goal.returns-in_default-clause-end
returns-in_default-clause-end c = subst (λ (o : Option PortHeld). IsEndOf c.args.self.now o None) (sym c.in_default.is) tt

pub inner_end-requires : goal.inner_end-requires
inner_end-requires c =
    let v = c.args.self.now in
    let kept = subst (λ (w : ViewedRunValue). IsViewedRun w c.self.inside.flags.items) c.self.view_is c.self.invariant in
    let there = subst (λ (o : Option PortHeld). IfSome o (λ z. z.instance < length v.run.instances)) c.in-Some.is c.requires.held.within.to in
    (consumer_seen v kept.run kept.safe.accepted.formed c.args.item.now c.requires c.in-Some.port there c.in-Some.is).0

pub returns-clause-end : goal.returns-clause-end
returns-clause-end c = subst (λ (o : Option PortHeld). IsEndOf c.args.self.now o (Some c.inner_end.result)) (sym c.in-Some.is) c.inner_end.ensures

pub returns-clause-unopened : goal.returns-clause-unopened
returns-clause-unopened c =
    let v = c.args.self.now in
    let kept = subst (λ (w : ViewedRunValue). IsViewedRun w c.self.inside.flags.items) c.self.view_is c.self.invariant in
    let there = subst (λ (o : Option PortHeld). IfSome o (λ z. z.instance < length v.run.instances)) c.in-Some.is c.requires.held.within.to in
    let side = (consumer_seen v kept.run kept.safe.accepted.formed c.args.item.now c.requires c.in-Some.port there c.in-Some.is).1 in
    let end = c.inner_end.ensures in
    record { port = end.port; not_open = end.not_open; side = end.side ∙ side }
