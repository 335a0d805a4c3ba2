use Rattle.std.proofs.Common.{◌≡◌, ◌<◌, map, take, length}
use Rattle.wf_model.specs.declared.body.Position.{Position}
use Rattle.wf_model.specs.Lists.{IsIn}
use Rattle.wf_model.specs.Meaning.{position_of}
use Rattle.wf_form.specs.Forming.{placed}
use Rattle.wf_form.proofs.wiring.positions_from.Given as goal

abbrev pub invariant-loop-part : goal.invariant-loop-part
invariant-loop-part l = record {
  made : map position_of l.list.items ≡ map (placed l.names) (take l.part-index l.parts);
  known : (q : Position) → IsIn q l.list.items → q.module.0 < length l.names;
}
