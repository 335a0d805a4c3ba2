use Rattle.std.proofs.Common.{◌<◌, sym, subst}
use Rattle.wf_graph.specs.Search.{MetUpTo}
use Rattle.wf_graph.proofs.Searching.{up_to_none, up_to_more, next_in}
use Rattle.wf_graph.proofs.search.meet_row.Goals as goal

pub loop-w-init : goal.loop-w-init
loop-w-init g c =
    let list = g.G.Graph.leads c.args.graph.now c.args.v in
    let m = c.args.marks.now.items in
    let q = c.args.queue.now.items in
    subst (λ rest. MetUpTo list rest m q m q) (sym c.begin-mark.ensures) (up_to_none m q list)

pub meet-requires : goal.meet-requires
meet-requires g c =
    let list = g.G.Graph.leads c.args.graph.now c.args.v in
    let met = c.loop-w.invariant in
    let rest = g.G.Graph.rest c.args.graph.now c.args.v in
    subst (λ n. c.in-Some.w < n) (sym met.met.count) (c.requires.in_range c.in-Some.w (next_in list met.begin (rest c.loop-w.mark) (rest c.in-Some.behind) c.in-Some.w met.split c.in-Some.ensures))

pub loop-w-preserved : goal.loop-w-preserved
loop-w-preserved g c =
    let list = g.G.Graph.leads c.args.graph.now c.args.v in
    let rest = g.G.Graph.rest c.args.graph.now c.args.v in
    up_to_more c.args.marks.now.items c.args.queue.now.items list (rest c.loop-w.mark) c.loop-w.marks.items c.loop-w.queue.items c.in-Some.w (rest c.in-Some.behind) _ _
    c.loop-w.invariant c.in-Some.ensures c.in_ok-meet.ensures.met
