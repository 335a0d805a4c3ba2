use Rattle.std.proofs.Common.{◌∙◌, List, map, flat_map, ap}
use Rattle.std.proofs.lemmas.List.{take_all}
use Rattle.wf_model.specs.declared.body.Edge.{Edge as EdgeHeld}
use Rattle.wf_model.specs.Meaning.{edge_of}
use Rattle.wf_model.proofs.Absent.{no_edge}
use Rattle.wf_model.proofs.Lists.{in_map}
use Rattle.wf_spec.proofs.Tables.{get_in}
use Rattle.words_model.specs.Lifting.{edge_states}
use Rattle.wf_lift.proofs.Growing.{joined_more}
use Rattle.wf_lift.proofs.ends.lift_edges.Goals as goal

pub add_edge-requires-clause-from : goal.add_edge-requires-clause-from
add_edge-requires-clause-from c = (c.requires _ (in_map edge_of _ c.args.edges.now (get_in c.loop-edge.edge-index c.args.edges.now no_edge c.loop-edge-test.true))).0

pub add_edge-requires-clause-to : goal.add_edge-requires-clause-to
add_edge-requires-clause-to c = (c.requires _ (in_map edge_of _ c.args.edges.now (get_in c.loop-edge.edge-index c.args.edges.now no_edge c.loop-edge-test.true))).1

pub loop-edge-preserved : goal.loop-edge-preserved
loop-edge-preserved c =
    joined_more edge_of (edge_states c.args.states) edge_of c.loop-edge.list.items c.add_edge.new.list.items c.args.edges.now c.loop-edge.edge-index no_edge
    c.loop-edge.invariant c.in_ok-add_edge.ensures c.loop-edge-test.true

pub returns : goal.returns
returns c = c.loop-edge.invariant ∙ ap (λ (l : List EdgeHeld). flat_map (edge_states c.args.states) (map edge_of l)) (take_all c.loop-edge.edge-index c.args.edges.now c.loop-edge-test.false)
