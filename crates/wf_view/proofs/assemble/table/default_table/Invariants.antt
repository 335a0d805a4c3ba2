use Rattle.std.proofs.Common.{[]}
use Rattle.wf_view.specs.Tables.{AreKept}
use Rattle.wf_view.proofs.assemble.table.default_table.Given as goal

abbrev pub invariant-loop-m : goal.invariant-loop-m
invariant-loop-m l = AreKept l.g.core l.marks [] l.m l.table.items
