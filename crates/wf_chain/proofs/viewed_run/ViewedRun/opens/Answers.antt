use Rattle.std.proofs.Common.{◌∙◌, ap, subst, get_or, false}
use Rattle.wf_chain.specs.ViewedRuns.{ViewedRunValue, IsViewedRun}
use Rattle.wf_chain.proofs.viewed_run.ViewedRun.opens.Goals as goal

pub returns : goal.returns
returns c =
    let kept = subst (λ (v : ViewedRunValue). IsViewedRun v c.self.inside.flags.items) c.self.view_is c.self.invariant in
    c.is_set.ensures ∙ (ap (λ l. get_or l c.args.k false) c.deref.ensures.value ∙ kept.flagged c.args.k c.requires)
