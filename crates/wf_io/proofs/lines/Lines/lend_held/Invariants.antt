use Rattle.std.proofs.Common.{length}
use Rattle.wf_io.specs.Steps.{Skips}
use Rattle.wf_io.proofs.lines.Lines.lend_held.Given as goal

abbrev pub invariant-loop-end : goal.invariant-loop-end
invariant-loop-end l = Skips l.initial.self l.self

abbrev pub decreases-loop-end : goal.decreases-loop-end
decreases-loop-end l = length l.self.kept
