use Rattle.std.proofs.Common.{◌≡◌, ◌≤◌, length}
use Rattle.wf_intake.specs.Rounds.{all_marked}
use Rattle.wf_intake.proofs.round.mark_all.Given as goal

abbrev pub invariant-loop-left : goal.invariant-loop-left
invariant-loop-left l = (length l.left ≤ l.inbox.spare) × (all_marked l.left l.inbox.kept ≡ all_marked l.names l.initial.inbox.kept)

abbrev pub decreases-loop-left : goal.decreases-loop-left
decreases-loop-left l = length l.left
