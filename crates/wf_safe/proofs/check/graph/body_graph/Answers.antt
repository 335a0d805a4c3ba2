use Rattle.std.proofs.Common.{map, ◌++◌}
use Rattle.wf_model.specs.Grammar.{body_of, production_at}
use Rattle.wf_model.specs.Links.{body_links, edge_link, entry_links, exit_links, place_links}
use Rattle.wf_model.specs.Meaning.{pairs_of}
use Rattle.wf_safe.proofs.LinkGraphs.{adds_both, graph_of}
use Rattle.wf_safe.proofs.check.graph.body_graph.Goals as goal

pub returns-clause-edges : goal.returns-clause-edges
returns-clause-edges c =
    let g = c.args.g.now.core in
    let d = pairs_of c.args.deps.now in
    let p = c.args.p.0 in
    let edges = map edge_link (production_at g p).edges in
    let entries = entry_links 0 (production_at g p).entries in
    let exits = exit_links 0 (production_at g p).exits in
    let first = c.in_ok-graph.graph.items in
    let one = c.add_edges.new.graph.items in
    let two = c.add_entries.new.graph.items in
    let three = c.add_exits.new.graph.items in
    let last = c.add_places.new.graph.items in
    graph_of (body_links g d p) first last c.in_ok-graph.ensures.none
    (adds_both (edges ++ (entries ++ exits)) (place_links g d 0 (body_of g p)) first three last
    (adds_both edges (entries ++ exits) first one three c.in_ok-add_edges.ensures (adds_both entries exits one two three c.in_ok-add_entries.ensures c.in_ok-add_exits.ensures))
    c.in_ok-add_places.ensures)
