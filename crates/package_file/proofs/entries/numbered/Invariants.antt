use Rattle.std.proofs.Common.{length}
use Rattle.package_file.proofs.NumberedEntries.{AreSoFar}
use Rattle.package_file.proofs.entries.numbered.Given as goal

abbrev pub invariant-loop-left : goal.invariant-loop-left
invariant-loop-left l = AreSoFar l.initial.left l.entries.items l.left

abbrev pub decreases-loop-left : goal.decreases-loop-left
decreases-loop-left l = length l.left
