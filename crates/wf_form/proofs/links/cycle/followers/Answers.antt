use Rattle.std.proofs.Common.{◌↔◌, ◌<◌, ℕ, sym, subst, ◌∙◌, get_or, map, take, List}
use Rattle.std.proofs.lemmas.List.{take_all}
use Rattle.wf_model.specs.Grammar.{Edge}
use Rattle.wf_model.specs.Meaning.{edge_of}
use Rattle.wf_model.specs.declared.body.Edge.{Edge as EdgeHeld}
use Rattle.wf_graph.specs.Graph.{HasEdge}
use Rattle.wf_form.specs.Graphs.{IsJoined}
use Rattle.wf_form.proofs.Graphs.{joined_more}
use Rattle.wf_spec.proofs.Graphs.{edge_there, edges_more}
use Rattle.wf_model.proofs.Absent.{no_edge}
use Rattle.wf_form.proofs.links.cycle.followers.Goals as goal

pub loop-e-init : goal.loop-e-init
loop-e-init c = record {
  count = c.in_ok-graph.ensures.count;
  edges = λ a b. (λ h. absurd (c.in_ok-graph.ensures.none a b h), λ j. absurd j.1);
}

pub add_edge-requires : goal.add_edge-requires
add_edge-requires c =
    let xs = c.args.edges.now in
    let k = c.loop-e.e-index in
    subst (λ n. (get_or xs k no_edge).from.pos.0 < n) (sym c.loop-e.invariant.count) (c.requires (edge_of (get_or xs k no_edge)) (edge_there xs k no_edge c.loop-e-test.true))

pub loop-e-preserved : goal.loop-e-preserved
loop-e-preserved c =
    let xs = c.args.edges.now in
    let k = c.loop-e.e-index in
    record {
      count = c.in_ok-add_edge.ensures.count ∙ c.loop-e.invariant.count;
      edges = subst (λ (l : List Edge). (a b : ℕ) → HasEdge c.add_edge.new.graph.items a b ↔ IsJoined l a b) (sym (edges_more xs k no_edge c.loop-e-test.true))
          (joined_more c.loop-e.graph.items c.add_edge.new.graph.items (map edge_of (take k xs)) (edge_of (get_or xs k no_edge)) c.loop-e.invariant.edges c.in_ok-add_edge.ensures.added);
    }

pub returns-clause-edges : goal.returns-clause-edges
returns-clause-edges c =
    subst (λ (l : List EdgeHeld). (a b : ℕ) → HasEdge c.loop-e.graph.items a b ↔ IsJoined (map edge_of l) a b) (take_all c.loop-e.e-index c.args.edges.now c.loop-e-test.false) c.loop-e.invariant.edges
