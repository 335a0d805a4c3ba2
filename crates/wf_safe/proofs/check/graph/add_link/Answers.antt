use Rattle.std.proofs.Common.{◌∙◌, ◌<◌, [], ◌∷◌, ◌++◌, ap, sym, subst, length, set, length-set}
use Rattle.wf_graph.specs.OneMore.{HasOneMore}
use Rattle.wf_graph.proofs.Edges.{edge_more}
use Rattle.wf_safe.specs.BodyGraph.{link_of, port_of, vertex_of}
use Rattle.wf_safe.proofs.LinkGraphs.{adds_one}
use Rattle.wf_safe.proofs.check.graph.add_link.Goals as goal

pub returns : goal.returns
returns c =
    let graph = c.args.graph.now.items in
    let after = set graph c.vertex.result c.push.new.self in
    let within = subst (λ v. v < length graph) (sym c.vertex.ensures) c.requires in
    adds_one (link_of c.args.from c.args.to) graph after (length-set graph c.vertex.result c.push.new.self)
    (subst (λ v. HasOneMore graph v (vertex_of (port_of c.args.to)) after) c.vertex.ensures
    (edge_more graph c.vertex.result (vertex_of (port_of c.args.to)) c.index_mut-list.result.now c.push.new.self within c.index_mut-list.ensures.value
    (c.in_ok-push.ensures.items ∙ ap (λ v. c.index_mut-list.result.now.items ++ v ∷ []) c.vertex-2.ensures)))
