use Rattle.std.proofs.Common.{map, take}
use Rattle.wf_model.specs.Meaning.{inner_of}
use Rattle.wf_form.specs.Assembling.{AreByPort, exit_at}
use Rattle.wf_form.proofs.assemble.ends.exits_by_port.Given as goal

abbrev pub invariant-loop-e : goal.invariant-loop-e
invariant-loop-e l = AreByPort l.fn.ports (map exit_at (take l.e-index l.exits)) (map inner_of l.ends.items)
