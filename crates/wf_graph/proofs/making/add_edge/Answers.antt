use Rattle.wf_graph.proofs.Edges.{edge_more}
use Rattle.wf_graph.proofs.making.add_edge.Goals as goal

pub returns-clause-added : goal.returns-clause-added
returns-clause-added c = edge_more c.args.graph.now.items c.args.from c.args.to c.index_mut-list.result.now c.push.new.self c.requires c.index_mut-list.ensures.value c.in_ok-push.ensures.items
