use Rattle.std.proofs.Common.{◌≡◌, map, take, flat_map}
use Rattle.wf_model.specs.declared.numbers.ProdNo.{ProdNo}
use Rattle.wf_recur.specs.Cycles.{step_of}
use Rattle.wf_recur.specs.Reaching.{rows_in}
use Rattle.wf_recur.specs.Steps.{back_steps}
use Rattle.wf_recur.proofs.steps.back_steps_of.Given as goal

abbrev pub invariant-loop-p : goal.invariant-loop-p
invariant-loop-p l = map step_of l.list.items ≡ flat_map (back_steps l.g.core (rows_in l.rows) l.fn.m.0) (map (λ (p : ProdNo). p.0) (take l.p-index l.p-items))
