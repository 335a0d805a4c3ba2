use Rattle.std.proofs.Common.{◌≡◌, ◌==◌, true, get_or}
use Rattle.std.specs.Int.{bit_at}
use Rattle.wf_package.specs.Parts.{all_pairs_pass}
use Rattle.wf_package.proofs.pairs.are_full.Given as goal

-- the rows so far are full
abbrev pub invariant-loop-i : goal.invariant-loop-i
invariant-loop-i l = all_pairs_pass l.i l.outputs (λ i o. bit_at (get_or l.rows i 0) o == 1) ≡ true
