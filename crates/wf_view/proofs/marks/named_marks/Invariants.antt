use Rattle.std.proofs.Common.{take, Some}
use Rattle.wf_view.specs.Marks.{AreMarksOf}
use Rattle.wf_view.proofs.marks.named_marks.Given as goal

abbrev pub invariant-loop-name : goal.invariant-loop-name
invariant-loop-name l = AreMarksOf l.g.core (Some (take l.name-index l.names)) l.marks.items
