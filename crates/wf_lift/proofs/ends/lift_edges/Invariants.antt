use Rattle.std.proofs.Common.{◌≡◌, map, flat_map, take}
use Rattle.wf_model.specs.Meaning.{edge_of}
use Rattle.words_model.specs.Lifting.{edge_states}
use Rattle.wf_lift.proofs.ends.lift_edges.Given as goal

-- the edges so far
abbrev pub invariant-loop-edge : goal.invariant-loop-edge
invariant-loop-edge l = map edge_of l.list.items ≡ flat_map (edge_states l.states) (map edge_of (take l.edge-index l.edges))
