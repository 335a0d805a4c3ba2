use Rattle.std.proofs.Common.{◌≡◌, ◌++◌, map}
use Rattle.wf_model.specs.Lists.{numbers_from}
use Rattle.wf_compare.specs.Steps.{leading_at}
use Rattle.wf_compare.proofs.steps.add_steps.Given as goal

-- the positions so far
abbrev pub invariant-loop-k : goal.invariant-loop-k
invariant-loop-k l = l.row.items ≡ l.initial.row.items ++ map (leading_at l.g.core l.production.0) (numbers_from 0 l.k)
