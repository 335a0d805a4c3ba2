use Rattle.std.proofs.Common.{◌≡◌, ◌<◌, ◌^◌, ◌++◌, decimal, length}
use Rattle.wf_events.proofs.number.longest.Given as goal

abbrev pub invariant-loop-left : goal.invariant-loop-left
invariant-loop-left l = record { positive : 0 < l.number; fits : l.number < 2 ^ 64; whole : decimal l.initial.number ++ l.initial.left ≡ decimal l.number ++ l.left }

abbrev pub decreases-loop-left : goal.decreases-loop-left
decreases-loop-left l = length l.left
