use Rattle.std.proofs.Common.{◌≡◌, map}
use Rattle.wf_model.specs.Lists.{numbers_from}
use Rattle.wf_compare.specs.Steps.{open_leadings, rows_in}
use Rattle.wf_compare.proofs.steps.all_open_steps.Given as goal

-- the modules so far
abbrev pub invariant-loop-k : goal.invariant-loop-k
invariant-loop-k l = rows_in l.rows.items ≡ map (open_leadings l.v.grammar.now.core l.v.view.now.core) (numbers_from 0 l.k)
