use Rattle.std.proofs.Common.{◌≡◌, ◌++◌, length}
use Rattle.wf_inbox.specs.Packed.{names_in}
use Rattle.wf_inbox.proofs.packed.names_of.Given as goal

abbrev pub invariant-loop-left : goal.invariant-loop-left
invariant-loop-left l = l.all.items ++ names_in l.left ≡ names_in l.text

abbrev pub decreases-loop-left : goal.decreases-loop-left
decreases-loop-left l = length l.left
