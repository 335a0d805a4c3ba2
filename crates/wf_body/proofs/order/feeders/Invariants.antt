use Rattle.std.proofs.Common.{map, take}
use Rattle.wf_model.specs.Meaning.{edge_of}
use Rattle.wf_body.proofs.Feeding.{FedBy}
use Rattle.wf_body.proofs.order.feeders.Given as goal

-- the edges so far
abbrev pub invariant-loop-e : goal.invariant-loop-e
invariant-loop-e l = FedBy (map edge_of (take l.e-index l.edges)) l.words
