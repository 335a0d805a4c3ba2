use Rattle.std.proofs.Common.{◌≡◌, map, take}
use Rattle.wf_model.specs.declared.parts.ExitPart.{ExitPart}
use Rattle.wf_model.specs.Lists.{IsIn}
use Rattle.wf_model.specs.Meaning.{position_of}
use Rattle.wf_form.specs.Wiring.{exit_of, exit_link, IsExitIn}
use Rattle.wf_form.proofs.links.numbers.exit_numbers.Given as goal

abbrev pub invariant-loop-part : goal.invariant-loop-part
invariant-loop-part l = record {
  numbered : map exit_of l.list.items ≡ map (exit_link l.modules (map position_of l.body) l.head) (take l.part-index l.parts);
  all : (e : ExitPart) → IsIn e (take l.part-index l.parts) → IsExitIn l.modules (map position_of l.body) l.head e;
}
