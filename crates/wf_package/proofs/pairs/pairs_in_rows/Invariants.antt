use Rattle.std.proofs.Common.{◌≡◌, ◌==◌, map, get_or}
use Rattle.std.specs.Int.{bit_at}
use Rattle.wf_spec.specs.GivenRows.{pair_of}
use Rattle.package_model.specs.Shown.{pairs_within}
use Rattle.wf_package.proofs.pairs.pairs_in_rows.Given as goal

-- the rows so far
abbrev pub invariant-loop-i : goal.invariant-loop-i
invariant-loop-i l = map pair_of l.pairs.items ≡ pairs_within l.i l.outputs (λ i o. bit_at (get_or l.rows i 0) o == 1)
