use Rattle.std.proofs.Common.{◌≡◌, ◌==◌, true}
use Rattle.std.specs.Int.{bit_at}
use Rattle.std.specs.List.{list_all}
use Rattle.wf_model.specs.Lists.{numbers_from}
use Rattle.wf_package.proofs.pairs.is_full.Given as goal

-- the bits so far are set
abbrev pub invariant-loop-output : goal.invariant-loop-output
invariant-loop-output l = list_all (λ o. bit_at l.row o == 1) (numbers_from 0 l.output) ≡ true
