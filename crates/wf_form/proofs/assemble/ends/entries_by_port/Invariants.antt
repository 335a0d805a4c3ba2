use Rattle.std.proofs.Common.{map, take}
use Rattle.wf_model.specs.Meaning.{inner_of}
use Rattle.wf_form.specs.Assembling.{AreByPort}
use Rattle.wf_form.specs.Wiring.{entry_of}
use Rattle.wf_form.proofs.assemble.ends.entries_by_port.Given as goal

abbrev pub invariant-loop-e : goal.invariant-loop-e
invariant-loop-e l = AreByPort l.fn.ports (map entry_of (take l.e-index l.entries)) (map inner_of l.ends.items)
