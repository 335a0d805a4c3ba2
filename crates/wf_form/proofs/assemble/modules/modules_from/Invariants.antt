use Rattle.std.proofs.Common.{◌≡◌, map, take}
use Rattle.wf_form.specs.Forming.{module_of}
use Rattle.wf_form.proofs.assemble.modules.modules_from.Given as goal

abbrev pub invariant-loop-part : goal.invariant-loop-part
invariant-loop-part l = l.list.items ≡ map module_of (take l.part-index l.parts)
