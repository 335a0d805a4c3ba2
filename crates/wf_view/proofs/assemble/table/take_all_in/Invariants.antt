use Rattle.std.proofs.Common.{length, take}
use Rattle.wf_view.specs.Tables.{AreKept}
use Rattle.wf_view.proofs.assemble.table.take_all_in.Given as goal

abbrev pub invariant-loop-part : goal.invariant-loop-part
invariant-loop-part l = AreKept l.g.core l.marks (take l.part-index l.deps) (length l.g.core.modules) l.table
