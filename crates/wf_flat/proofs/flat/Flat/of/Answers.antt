use Rattle.std.proofs.Common.{List, ◌<◌, ◌^◌, length, subst}
use Rattle.wf_model.specs.Lists.{IsIn}
use Rattle.wf_flat.specs.declared.table.Inst.{Inst}
use Rattle.wf_flat.specs.Graph.{MarkOpen, links_among}
use Rattle.wf_flat.specs.Leading.{IsIndex}
use Rattle.wf_flat.proofs.InstanceLinks.{among_seen, among_within}
use Rattle.wf_flat.proofs.Shown.{open_told}
use Rattle.wf_flat.proofs.flat.Flat.of.Goals as goal

pub ports_of-requires-clause-there : goal.ports_of-requires-clause-there
ports_of-requires-clause-there c = λ k i. c.in_ok-all.ensures.there k (subst (IsIn k) c.deref.ensures.value i)

pub opens-requires : goal.opens-requires
opens-requires c = λ k i. c.in_ok-all.ensures.there k (subst (IsIn k) c.deref-2.ensures.value i)

pub returns-clause-graph : goal.returns-clause-graph
returns-clause-graph c =
    let g = c.args.g.now.core in
    let t = c.args.run.now in
    let marks = c.args.expanded.now in
    let leaf = c.args.leaf.now in
    let all = c.in_ok-all.all.items in
    let formed = c.start-formed.ensures.formed in
    let small = subst (λ (l : List Inst). length l < 2 ^ 32) c.instances-few.ensures.instances c.instances-few.ensures.small in
    let p = c.in_ok-ports.ports in (
      links_among g marks leaf t.instances all,
      among_seen g t c.requires.run formed small marks leaf all c.in_ok-all.ensures.seen c.in_ok-all.ensures.there,
      among_within g t c.requires.run formed small marks leaf all c.in_ok-all.ensures.there,
      subst (λ s. IsIndex (links_among g marks leaf t.instances s) p.begins.items p.words.items p.rows.items) c.deref.ensures.value c.in_ok-ports.ensures.index,
    )

pub returns-clause-opens : goal.returns-clause-opens
returns-clause-opens c = λ u m.
    let t = c.args.run.now in
    open_told c.args.g.now.core t c.requires.run u c.in_ok-opens.opens.items c.args.expanded.now c.in_ok-all.all.items m (c.in_ok-all.ensures.seen u m) c.in_ok-all.ensures.there
    (subst (MarkOpen c.in_ok-opens.opens.items c.args.expanded.now t.instances) c.deref-2.ensures.value c.in_ok-opens.ensures)
