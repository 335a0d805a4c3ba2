use Rattle.std.proofs.Common.{◌≡◌, map, take}
use Rattle.wf_model.specs.declared.parts.EdgePart.{EdgePart}
use Rattle.wf_model.specs.Lists.{IsIn}
use Rattle.wf_model.specs.Meaning.{position_of, edge_of}
use Rattle.wf_form.specs.Forming.{edge_in}
use Rattle.wf_form.specs.Resolving.{IsEdgeIn}
use Rattle.wf_form.proofs.links.numbers.edge_numbers.Given as goal

abbrev pub invariant-loop-part : goal.invariant-loop-part
invariant-loop-part l = record {
  numbered : map edge_of l.list.items ≡ map (edge_in l.modules (map position_of l.body)) (take l.part-index l.parts);
  all : (e : EdgePart) → IsIn e (take l.part-index l.parts) → IsEdgeIn l.modules (map position_of l.body) e;
}
