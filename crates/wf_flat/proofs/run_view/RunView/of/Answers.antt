use Rattle.std.proofs.Common.{List, ◌<◌, ◌^◌, length, subst}
use Rattle.wf_model.specs.Lists.{IsIn}
use Rattle.wf_flat.specs.declared.table.Inst.{Inst}
use Rattle.wf_flat.specs.Graph.{MarkOpen}
use Rattle.wf_flat.proofs.InstanceLinks.{among_seen, among_within}
use Rattle.wf_flat.proofs.Shown.{open_told}
use Rattle.wf_flat.proofs.run_view.RunView.of.Goals as goal

pub opens-requires : goal.opens-requires
opens-requires c = λ k i. c.in_ok-all.ensures.there k (subst (IsIn k) c.deref.ensures.value i)

pub returns-clause-opens : goal.returns-clause-opens
returns-clause-opens c = λ u m.
    let t = c.args.run.now in
    open_told c.args.g.now.core t c.requires u c.in_ok-opens.opens.items c.args.expanded.now c.in_ok-all.all.items m (c.in_ok-all.ensures.seen u m) c.in_ok-all.ensures.there
    (subst (MarkOpen c.in_ok-opens.opens.items c.args.expanded.now t.instances) c.deref.ensures.value c.in_ok-opens.ensures)

pub returns-clause-links : goal.returns-clause-links
returns-clause-links c = λ leaf.
    let small = subst (λ (l : List Inst). length l < 2 ^ 32) c.instances-few.ensures.instances c.instances-few.ensures.small in
    among_seen c.args.g.now.core c.args.run.now c.requires c.start-formed.ensures.formed small c.args.expanded.now leaf c.in_ok-all.all.items c.in_ok-all.ensures.seen c.in_ok-all.ensures.there

pub returns-clause-within : goal.returns-clause-within
returns-clause-within c = λ leaf.
    let small = subst (λ (l : List Inst). length l < 2 ^ 32) c.instances-few.ensures.instances c.instances-few.ensures.small in
    among_within c.args.g.now.core c.args.run.now c.requires c.start-formed.ensures.formed small c.args.expanded.now leaf c.in_ok-all.all.items c.in_ok-all.ensures.there
