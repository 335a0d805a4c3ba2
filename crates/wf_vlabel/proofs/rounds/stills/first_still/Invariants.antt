use Rattle.std.proofs.Common.{◌≡◌, ◌+◌, ◌-◌, ◌≤◌}
use Rattle.decode_model.specs.Legs.{still, still_from}
use Rattle.wf_vlabel.specs.Groups.{matrix_of}
use Rattle.wf_vlabel.proofs.rounds.stills.first_still.Given as goal

abbrev pub invariant-loop-k : goal.invariant-loop-k
invariant-loop-k l =
    (l.k ≤ 23) × (still_from (λ k. matrix_of l.squares l.key (l.from + k)) l.k (23 - l.k) ≡ still (λ k. matrix_of l.squares l.key (l.from + k)))

abbrev pub decreases-loop-k : goal.decreases-loop-k
decreases-loop-k l = 23 - l.k
