use Rattle.std.proofs.Common.{sym, ap, subst}
use Rattle.wf_model.specs.Run.{Instance}
use Rattle.wf_flat.specs.Graph.{inst_at}
use Rattle.wf_chain.specs.declared.chain.ChainStep.{ChainStep}
use Rattle.wf_chain.specs.ViewedRuns.{ViewedRunValue, IsViewedRun}
use Rattle.wf_chain.proofs.Stepping.{end_none, end_some, not_consumed, consumes_only, consumes_from, same_number, led_goes, goes_led}
use Rattle.wf_chain.proofs.viewed_run.ViewedRun.consumes.Goals as goal

pub returns-in_default : goal.returns-in_default
returns-in_default c =
    let kept = subst (λ (w : ViewedRunValue). IsViewedRun w c.self.inside.flags.items) c.self.view_is c.self.invariant in
    not_consumed c.args.self.now kept.run c.args.item.now (inst_at c.args.self.now.run.instances c.args.via) (end_none c.args.self.now c.args.item.now.to c.in_default.ensures.end)

pub returns-then-input-via : goal.returns-then-input-via
returns-then-input-via c =
    let kept = subst (λ (w : ViewedRunValue). IsViewedRun w c.self.inside.flags.items) c.self.view_is c.self.invariant in
    let v = c.args.self.now in
    let e = end_some v c.args.item.now.to c.in-Some.input c.in-Some.ensures.end in
    λ h.
    c.if-input-via.true
    (same_number v kept.run c.in-Some.input.instance c.args.via c.in-Some.ensures.unopened.port.there c.requires.via
    (ap (λ (z : Instance). z.name) (sym (consumes_only v kept.run e.0 c.in-Some.input c.in-Some.ensures.unopened e.2 c.args.item.now e.1 (inst_at v.run.instances c.args.via) h))))

pub returns : goal.returns
returns c =
    let kept = subst (λ (w : ViewedRunValue). IsViewedRun w c.self.inside.flags.items) c.self.view_is c.self.invariant in
    let v = c.args.self.now in
    let i = c.args.item.now in
    let p = c.in-Some.input in
    let e = end_some v i.to p c.in-Some.ensures.end in
    let unopened = c.in-Some.ensures.unopened in
    record {
      consumes = consumes_from v kept.run e.0 p unopened e.2 i e.1 c.args.via c.if-input-via.false;
      unopened = unopened;
      onward = λ j there.
          let step : ChainStep = record { via = c.args.via; item = j } in
          (goes_led v kept.run i step e.0 p e.1 unopened e.2 c.if-input-via.false there, led_goes v kept.run i step e.0 p e.1 unopened e.2 c.if-input-via.false there);
    }
