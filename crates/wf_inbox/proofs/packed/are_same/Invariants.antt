use Rattle.std.proofs.Common.{◌≡◌, bytes_eq, length}
use Rattle.std.specs.Cmp.Lexicographic.{pointwise}
use Rattle.wf_inbox.specs.Packed.{names_in}
use Rattle.wf_inbox.proofs.packed.are_same.Given as goal

abbrev pub invariant-loop-left : goal.invariant-loop-left
invariant-loop-left l = pointwise bytes_eq (names_in l.text) l.names ≡ pointwise bytes_eq (names_in l.left) l.others

abbrev pub decreases-loop-left : goal.decreases-loop-left
decreases-loop-left l = length l.left
