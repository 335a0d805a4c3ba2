use Rattle.std.proofs.Common.{◌≡◌, take}
use Rattle.wf_model.specs.declared.body.Edge.{Edge as EdgeHeld}
use Rattle.wf_model.specs.Lists.{IsIn}
use Rattle.wf_flat.proofs.item.edge_from.Given as goal

abbrev pub invariant-loop-e : goal.invariant-loop-e
invariant-loop-e l = (e : EdgeHeld) → IsIn e (take l.e-index l.edges) → e.from ≡ l.from → ⊥
