use Rattle.std.proofs.Common.{◌∙◌, refl, subst, arith}
use Rattle.wf_chain.proofs.Walked.{inward_none, inward_more}
use Rattle.wf_chain.proofs.viewed_run.ViewedRun.inner_end.Goals as goal

pub loop-production-init : goal.loop-production-init
loop-production-init c = record { port = c.requires; side = refl; inward = inward_none c.args.self.now c.args.port.side c.args.port }

pub loop-production-preserved : goal.loop-production-preserved
loop-production-preserved c = record {
  port = c.inner_port-at.ensures.port;
  side = c.inner_port-at.ensures.side ∙ c.loop-production.invariant.side;
  inward = inward_more c.args.self.now c.args.port.side c.args.port c.loop-production.at c.inner_port-at.result c.loop-production.invariant.inward
      (subst (λ s. Rattle.wf_chain.specs.Steps.LeadsInward c.args.self.now s c.loop-production.at c.inner_port-at.result) c.loop-production.invariant.side c.inner_port-at.ensures.inward);
}

pub loop-production-smaller : goal.loop-production-smaller
loop-production-smaller c = let a = c.inner_port-at.ensures.later in let b = c.inner_port-at.ensures.port.there in omega arith

pub returns : goal.returns
returns c =
    let kept = c.loop-production.invariant in
    record { port = kept.port; not_open = c.in_default.ensures; side = kept.side; inward = kept.inward }
