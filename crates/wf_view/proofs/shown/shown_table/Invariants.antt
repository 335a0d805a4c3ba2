use Rattle.wf_view.specs.ShownTable.{AreOnlyShownBelow}
use Rattle.wf_view.proofs.shown.shown_table.Given as goal

-- the modules so far
abbrev pub invariant-loop-m : goal.invariant-loop-m
invariant-loop-m l = AreOnlyShownBelow l.v.grammar.now.core l.v.view.now l.m l.rows
