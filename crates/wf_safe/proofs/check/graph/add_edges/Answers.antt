use Rattle.std.proofs.Common.{◌≡◌, ◌∙◌, [], ◌∷◌, ap, subst, refl, get_or}
use Rattle.wf_model.specs.Grammar.{Production}
use Rattle.wf_model.specs.Links.{edge_link}
use Rattle.wf_model.specs.Lists.{IsIn}
use Rattle.wf_model.specs.Meaning.{edge_of}
use Rattle.wf_model.proofs.Absent.{no_edge}
use Rattle.wf_spec.proofs.Graphs.{edge_there}
use Rattle.wf_safe.specs.BodyGraph.{AddsLinks, link_of}
use Rattle.wf_safe.proofs.BodyLinks.{edges_step}
use Rattle.wf_safe.proofs.LinkGraphs.{completes_more}
use Rattle.wf_safe.proofs.Vertices.{inner_output}
use Rattle.wf_safe.proofs.check.graph.add_edges.Goals as goal

pub add_link-requires : goal.add_link-requires
add_link-requires c =
    let g = c.args.g.now.core in
    let xs = c.edges-edges.result.now in
    let e = get_or xs c.loop-e.e-index no_edge in
    let there = subst (IsIn (edge_of e)) (c.edges-edges.ensures ∙ ap (λ (r : Production). r.edges) c.production.ensures.core) (edge_there xs c.loop-e.e-index no_edge c.loop-e-test.true) in
    let wf = c.production.ensures.formed in
    let low = (inner_output g c.args.p.0 (edge_of e).from wf c.requires.production ((wf.bodies c.args.p.0 c.requires.production).edges_from (edge_of e) there)).vertex in
    rw (c.output_port-from.ensures, c.loop-e.invariant.count, c.requires.vertices) low

pub loop-e-preserved : goal.loop-e-preserved
loop-e-preserved c =
    let xs = c.edges-edges.result.now in
    let e = get_or xs c.loop-e.e-index no_edge in
    let same : link_of c.output_port-from.result c.input_port-to.result ≡ edge_link (edge_of e) = rw (c.output_port-from.ensures, c.input_port-to.ensures) refl in
    record {
      count = c.in_ok-add_link.ensures.count ∙ c.loop-e.invariant.count;
      left = completes_more _ (edge_link (edge_of e) ∷ []) _ _ _ c.loop-e.graph.items c.add_link.new.graph.items (edges_step xs c.loop-e.e-index no_edge c.loop-e-test.true)
          (subst (λ l. AddsLinks (l ∷ []) c.loop-e.graph.items c.add_link.new.graph.items) same c.in_ok-add_link.ensures) c.loop-e.invariant.left;
    }
