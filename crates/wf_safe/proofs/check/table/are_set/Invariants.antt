use Rattle.std.proofs.Common.{ℕ, IsTrue, map, take}
use Rattle.wf_model.specs.Lists.{IsIn}
use Rattle.wf_safe.specs.Settling.{is_set}
use Rattle.wf_safe.proofs.Standing.{module_held}
use Rattle.wf_safe.proofs.check.table.are_set.Given as goal

abbrev pub invariant-loop-q : goal.invariant-loop-q
invariant-loop-q l = (m : ℕ) → IsIn m (map module_held (take l.q-index l.q-items)) → IsTrue (is_set l.rows m)
