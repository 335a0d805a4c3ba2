use Rattle.std.proofs.Common.{take}
use Rattle.wf_spec.specs.GivenRows.{AreNamed}
use Rattle.wf_spec.proofs.lists.rows.are_named.Given as goal

abbrev pub invariant-loop-part : goal.invariant-loop-part
invariant-loop-part l = AreNamed (take l.part-index l.given) l.fn.modules l.flags.items
