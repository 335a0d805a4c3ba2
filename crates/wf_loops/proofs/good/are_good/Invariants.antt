use Rattle.std.proofs.Common.{ℕ, ◌<◌}
use Rattle.wf_loops.specs.Looped.{loop_in}
use Rattle.wf_loops.specs.Tables.{steps_in}
use Rattle.wf_loops.specs.Good.{IsGoodAt}
use Rattle.wf_loops.proofs.good.are_good.Given as goal

abbrev pub invariant-loop-k : goal.invariant-loop-k
invariant-loop-k l = (m : ℕ) → m < l.k → IsGoodAt l.g.grammar.now.core (loop_in (steps_in l.steps)) m
