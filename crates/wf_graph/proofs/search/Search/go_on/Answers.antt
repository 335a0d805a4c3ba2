use Rattle.std.proofs.Common.{subst}
use Rattle.std.proofs.lemmas.List.{get_or_read}
use Rattle.wf_model.specs.Lists.{IsIn}
use Rattle.wf_graph.proofs.search.Search.go_on.Goals as goal

pub meet_row-requires-clause-in_range : goal.meet_row-requires-clause-in_range
meet_row-requires-clause-in_range g c = λ w i.
    let s = c.args.self.now in
    let v = get_or_read s.queue.items s.done c.index-v.result.now c.requires.left c.index-v.ensures 0 in
    c.requires.in_range w (subst (λ z. IsIn w (g.G.Graph.leads c.args.graph.now z)) v i)
