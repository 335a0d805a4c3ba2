use Rattle.std.proofs.Common.{◌≡◌, ◌++◌, map, filter}
use Rattle.wf_recur.specs.Cycles.{step_of}
use Rattle.wf_recur.specs.Reaching.{rows_in}
use Rattle.wf_recur.specs.Steps.{leads_back, steps_to}
use Rattle.wf_recur.proofs.steps.add_steps.Given as goal

abbrev pub invariant-loop-k : goal.invariant-loop-k
invariant-loop-k l = map step_of l.list.items ≡ map step_of l.initial.list.items ++ filter (leads_back l.g.core (rows_in l.rows) l.fn.m.0) (steps_to l.fn.p.0 l.k)
