use Rattle.std.proofs.Common.{get_or, arith}
use Rattle.wf_model.proofs.Lists.{is_at, at_in}
use Rattle.wf_model.proofs.Absent.{no_edge}
use Rattle.wf_chain.proofs.items.add_edges.Goals as goal

pub overflow_add-opened : goal.overflow_add-opened
overflow_add-opened c =
    let e = get_or c.args.edges.now c.loop-e.e-index no_edge in
    let low = c.requires.from e (at_in e c.loop-e.e-index c.args.edges.now (is_at c.loop-e.e-index c.args.edges.now no_edge c.loop-e-test.true)) in
    let is = c.from.ensures in
    omega arith

pub overflow_add-opened-in-loop-e : goal.overflow_add-opened-in-loop-e
overflow_add-opened-in-loop-e c =
    let e = get_or c.args.edges.now c.loop-e.e-index no_edge in
    let low = c.requires.to e (at_in e c.loop-e.e-index c.args.edges.now (is_at c.loop-e.e-index c.args.edges.now no_edge c.loop-e-test.true)) in
    let is = c.from-in-loop-e.ensures in
    omega arith
