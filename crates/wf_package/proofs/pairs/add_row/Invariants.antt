use Rattle.std.proofs.Common.{◌≡◌, ◌++◌, ◌==◌, map}
use Rattle.std.specs.Int.{bit_at}
use Rattle.wf_spec.specs.GivenRows.{pair_of}
use Rattle.package_model.specs.Shown.{pairs_of_input}
use Rattle.wf_package.proofs.pairs.add_row.Given as goal

-- the outputs so far
abbrev pub invariant-loop-output : goal.invariant-loop-output
invariant-loop-output l = map pair_of l.pairs.items ≡ map pair_of l.initial.pairs.items ++ pairs_of_input l.input l.output (λ o. bit_at l.row o == 1)
