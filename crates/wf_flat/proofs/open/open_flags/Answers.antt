use Rattle.std.proofs.Common.{subst}
use Rattle.wf_model.specs.Lists.{IsIn}
use Rattle.wf_flat.specs.Graph.{MarkOpen}
use Rattle.wf_flat.proofs.Shown.{open_told}
use Rattle.wf_flat.proofs.open.open_flags.Goals as goal

pub opens-requires : goal.opens-requires
opens-requires c = λ k i. c.in_ok-all.ensures.there k (subst (IsIn k) c.deref.ensures.value i)

pub returns : goal.returns
returns c = λ u m.
    let t = c.args.run.now in
    open_told c.args.g.now.core t c.requires u c.in_ok-flags.flags.items c.args.expanded.now c.in_ok-all.all.items m (c.in_ok-all.ensures.seen u m) c.in_ok-all.ensures.there
    (subst (MarkOpen c.in_ok-flags.flags.items c.args.expanded.now t.instances) c.deref.ensures.value c.in_ok-flags.ensures)
